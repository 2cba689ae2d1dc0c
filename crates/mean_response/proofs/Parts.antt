-- A layer while its edges are gone through.
use Rattle.std.proofs.Common.{ℕ, ◌+◌, ◌*◌, ◌^◌, ◌≡◌, ◌≢◌, ◌≤◌, ◌<◌, List, [], ◌∷◌, length, max, refl, sym, ap, ◌∙◌, subst, arith, slice_index, slice_set, get_or-set_same, get_or-set_other, inl, inr}
use Rattle.std.proofs.lemmas.Bool.{cases_lt, cases_eq}
use Rattle.std.proofs.lemmas.List.{length-set}
use Rattle.history_model.specs.declared.moves.Move.{Move}
use Rattle.history_model.specs.declared.moves.Move.TheVariants.{C, D}
use Rattle.history_model.specs.Game.{Payoffs}
use Rattle.history_model.specs.Automaton.{Automaton, IsAutomaton}
use Rattle.history_model.specs.Mean.{step, led}
use Rattle.strategy_trees.specs.Lassos.{led_points}
use Rattle.mean_response.specs.Walks.{gain, HasEdge, IsPart, IsLayer}
use Rattle.mean_response.proofs.Walking.{step-inside}

raised_same : (xs : List ℕ) (u x : ℕ) → u < length xs → slice_index (slice_set xs u (max (slice_index xs u) x)) u ≡ max (slice_index xs u) x
raised_same xs u x h = get_or-set_same xs u (max (slice_index xs u) x) 0 h

raised_other : (xs : List ℕ) (u w x : ℕ) → w ≢ u → slice_index (slice_set xs u (max (slice_index xs u) x)) w ≡ slice_index xs w
raised_other xs u w x h = get_or-set_other xs u w (max (slice_index xs u) x) 0 h

raised_grows : (xs : List ℕ) (u w x : ℕ) → u < length xs → slice_index xs w ≤ slice_index (slice_set xs u (max (slice_index xs u) x)) w
raised_grows xs u w x h = elim (cases_eq w u) [
  | inl e ↦ rw e (rw (raised_same xs u x h) (omega arith))
  | inr ne ↦ rw (raised_other xs u w x ne) (omega arith)
]

-- what holds of each old number and of x holds of each new one
raised_each : (P : ℕ → ℕ → Type 0) (xs : List ℕ) (u x : ℕ) → u < length xs → P u x → (w : ℕ) → P w (slice_index xs w) → P w (slice_index (slice_set xs u (max (slice_index xs u) x)) w)
raised_each P xs u x h new w old = elim (cases_eq w u) [
  | inl e ↦ (let s : slice_index (slice_set xs u (max (slice_index xs u) x)) w ≡ max (slice_index xs u) x = ap (slice_index (slice_set xs u (max (slice_index xs u) x))) e ∙ raised_same xs u x h in
      elim (cases_lt (slice_index xs u) x) [
        | inl l ↦ (let t : max (slice_index xs u) x ≡ x = omega arith in rw (s, t) (subst (λ v. P v x) (sym e) new))
        | inr l ↦ (let t : max (slice_index xs u) x ≡ slice_index xs u = omega arith in rw (s, t) (subst (λ v. P w (slice_index xs v)) e old))
      ])
  | inr ne ↦ rw (raised_other xs u w x ne) old
]

module _ (them : Automaton) (game : Payoffs) (ok : IsAutomaton them) (k : ℕ) (below : List ℕ) (n : ℕ) (inside : n < length them.rows) (small : slice_index below n ≤ k * 10 ^ 6 + 1)
    (few : (m : Move) → gain them game n m ≤ 10 ^ 6) where
  abbrev after : List ℕ → Move → List ℕ
  after xs m = slice_set xs (step them n m) (max (slice_index xs (step them n m)) (slice_index below n + gain them game n m))

  pub part_skip : (above : List ℕ) → slice_index below n ≤ 0 → IsPart them game k below n above → IsPart them game k below (n + 1) above
  part_skip above none p = record {
    size = p.size;
    reached = λ v m h positive. elim (cases_lt v n) [ inl l ↦ p.reached v m l positive | inr l ↦ (let e : v ≡ n = omega arith in let z : slice_index below v ≤ 0 = subst (λ w. slice_index below w ≤ 0) (sym e) none in absurd (omega arith)) ];
    made = p.made;
    bound = p.bound;
  }

  -- an edge from row n keeps what the edges before it gave, and adds its own
  part_edge : (above : List ℕ) (m : Move) → 0 < slice_index below n → IsPart them game k below n above → IsPart them game k below n (after above m)
  part_edge above m positive p =
      let u = step them n m in
      let x = slice_index below n + gain them game n m in
      let here : u < length above = rw p.size (step-inside them ok n m inside) in
      record {
        size = length-set above u (max (slice_index above u) x) ∙ p.size;
        reached = λ v m' h pos'. (let r = p.reached v m' h pos' in let s = raised_grows above u (step them v m') x here in omega (arith, r, s));
        made = λ w h. raised_each (λ w y. 0 < y → HasEdge them game below w y) above u x here
            (λ _. record { from = n; by = m; inside = inside; leads = refl; some = positive; value = refl }) w (p.made w h);
        bound = λ w. raised_each (λ w y. y ≤ k * 10 ^ 6 + 10 ^ 6 + 1) above u x here (let f = few m in omega arith) w (p.bound w);
      }

  pub part_edges : (above : List ℕ) → 0 < slice_index below n → IsPart them game k below n above → IsPart them game k below (n + 1) (after (after above C) D)
  part_edges above positive p =
      let one = part_edge above C positive p in
      let two = part_edge (after above C) D positive one in
      let hereC : step them n C < length above = rw p.size (step-inside them ok n C inside) in
      let hereD : step them n D < length (after above C) = rw one.size (step-inside them ok n D inside) in
      let xC = slice_index below n + gain them game n C in
      let xD = slice_index below n + gain them game n D in
      let atC : xC ≤ slice_index (after above C) (step them n C) = rw (raised_same above (step them n C) xC hereC) (omega arith) in
      let laterC : xC ≤ slice_index (after (after above C) D) (step them n C) = let r = raised_grows (after above C) (step them n D) (step them n C) xD hereD in omega arith in
      let atD : xD ≤ slice_index (after (after above C) D) (step them n D) = rw (raised_same (after above C) (step them n D) xD hereD) (omega arith) in
      let new : (m : Move) → slice_index below n + gain them game n m ≤ slice_index (after (after above C) D) (step them n m) = λ m. elim m as (λ m. slice_index below n + gain them game n m ≤ slice_index (after (after above C) D) (step them n m)) [ C ↦ laterC | D ↦ atD ] in
      record {
        size = two.size;
        reached = λ v m h pos'. elim (cases_lt v n) [
          | inl l ↦ two.reached v m l pos'
          | inr l ↦ (let e : v ≡ n = omega arith in subst (λ v. slice_index below v + gain them game v m ≤ slice_index (after (after above C) D) (step them v m)) (sym e) (new m))
        ];
        made = two.made;
        bound = two.bound;
      }

pub part_none : (them : Automaton) (game : Payoffs) (k : ℕ) (below above : List ℕ) → length above ≡ length them.rows → ((v : ℕ) → slice_index above v ≡ 0) → IsPart them game k below 0 above
part_none them game k below above size none = record {
  size = size;
  reached = λ v m h positive. absurd (omega arith);
  made = λ u h positive. (let z = none u in absurd (omega arith));
  bound = λ u. (let z = none u in omega arith);
}

pub first_layer : (them : Automaton) (game : Payoffs) → IsAutomaton them → (zeros : List ℕ) → length zeros ≡ length them.rows → ((v : ℕ) → slice_index zeros v ≡ 0) → IsLayer them game 0 (slice_set zeros them.start 1)
first_layer them game ok zeros size none =
    let inside : them.start < length zeros = rw size ok.started in
    let at : slice_index (slice_set zeros them.start 1) them.start ≡ 1 = get_or-set_same zeros them.start 1 0 inside in
    let other : (v : ℕ) → v ≢ them.start → slice_index (slice_set zeros them.start 1) v ≡ 0 = λ v ne. get_or-set_other zeros them.start v 1 0 ne ∙ none v in
    record {
      size = length-set zeros them.start 1 ∙ size;
      each = λ v h. elim (cases_eq v them.start) [
        | inl e ↦ (let a : slice_index (slice_set zeros them.start 1) v ≡ 1 = ap (slice_index (slice_set zeros them.start 1)) e ∙ at in record { upper = λ ms s w. empty ms s v (slice_index (slice_set zeros them.start 1) v) a; made = λ _. record { moves = []; size = refl; leads = sym e; scores = sym a } })
        | inr ne ↦ (let a : slice_index (slice_set zeros them.start 1) v ≡ 0 = other v ne in record { upper = λ ms s w. absurd (away ms s v ne w); made = λ positive. absurd (omega arith) })
      ];
      bound = λ v. elim (cases_eq v them.start) [ inl e ↦ (let a : slice_index (slice_set zeros them.start 1) v ≡ 1 = ap (slice_index (slice_set zeros them.start 1)) e ∙ at in omega arith) | inr ne ↦ (let a = other v ne in omega arith) ];
    }
  where
    empty : (ms : List Move) → length ms ≡ 0 → (v x : ℕ) → x ≡ 1 → led_points them game them.start ms < x
    empty [] s v x a = omega arith
    empty (m ∷ ms) s v x a = absurd (omega arith)

    away : (ms : List Move) → length ms ≡ 0 → (v : ℕ) → v ≢ them.start → led them them.start ms ≡ v → ⊥
    away [] s v ne w = ne (sym w)
    away (m ∷ ms) s v ne w = absurd (omega arith)

pub part_two : (them : Automaton) (game : Payoffs) → IsAutomaton them → (k : ℕ) (below : List ℕ) (n : ℕ) → n < length them.rows → slice_index below n ≤ k * 10 ^ 6 + 1 → ((m : Move) → gain them game n m ≤ 10 ^ 6) →
    (above above1 above2 : List ℕ) → 0 < slice_index below n →
    above1 ≡ slice_set above (step them n C) (max (slice_index above (step them n C)) (slice_index below n + gain them game n C)) →
    above2 ≡ slice_set above1 (step them n D) (max (slice_index above1 (step them n D)) (slice_index below n + gain them game n D)) →
    IsPart them game k below n above → IsPart them game k below (n + 1) above2
part_two them game ok k below n inside small few above above1 above2 positive e₁ e₂ p =
    rw (e₂, e₁) (part_edges them game ok k below n inside small few above positive p)
