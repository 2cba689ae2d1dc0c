-- The path of two automata is the one history that follows the rules by which they choose.
use Rattle.std.proofs.Common.{◌≡◌, ◌⊎◌, ℕ, ◌<◌, ◌≤◌, ◌==◌, [], ◌∷◌, length, if◌then◌else◌, refl, sym, ◌∙◌, ap, inl, inr, subst, arith}
use Rattle.std.proofs.lemmas.Bool.Decides.{eqb_tells}
use Rattle.history_model.specs.declared.moves.Move.{Move}
use Rattle.history_model.specs.declared.moves.Move.TheVariants.{C, D}
use Rattle.history_model.specs.declared.moves.Play.{Play}
use Rattle.history_model.specs.Automaton.{Automaton, IsAutomaton, IsSure, next_row, weight_at}
use Rattle.history_model.specs.Expectation.{Chooser, ChooseAlike, player}
use Rattle.history_model.specs.History.{History, turned, walk}
use Rattle.history_model.specs.Path.{Follows, PathIsOne, match_path, sure_move}
use Rattle.sheet_rules.specs.ByRule.{IsForced, IsOnlyByRules}

-- the move of a sure row is forced
forced : (den weight : ℕ) → (weight ≡ 0) ⊎ (weight ≡ den) → IsForced den weight (if weight == den then C else D)
forced den weight sure = elim (eqb_tells weight den) [
  | inl same ↦ rw same.0 same.1
  | inr other ↦ rw other.0 (elim sure [ inl zero_is ↦ zero_is | inr whole ↦ absurd (other.1 whole) ])
]

-- a forced move is the move of a row
only_move : (den weight : ℕ) (move : Move) → 1 ≤ den → IsForced den weight move → move ≡ (if weight == den then C else D)
only_move den weight C some is = elim (eqb_tells weight den) [ inl same ↦ rw same.0 refl | inr other ↦ absurd (other.1 is) ]
only_move den weight D some is = elim (eqb_tells weight den) [ inl same ↦ absurd (omega (arith, some, is, same.1)) | inr other ↦ rw other.0 refl ]

-- a walk stays among the rows
walk_inside : (a : Automaton) (row : ℕ) (history : History) → IsAutomaton a → row < length a.rows → walk a row history < length a.rows
walk_inside a row [] valid inside = inside
walk_inside a row (play ∷ rest) valid inside = walk_inside a (next_row a row play) rest valid (valid.closed row play.mine play.theirs inside)

-- how a sure automaton moves after a history, by the chooser that chooses alike
module _ (a : Automaton) (p : Chooser) (valid : IsAutomaton a) (sure : IsSure a) (alike : ChooseAlike (player a) p) where
  abbrev row_after : History → ℕ
  row_after before = walk a a.start before

  moves_forced : (before : History) (move : Move) → move ≡ sure_move a (row_after before) → IsForced p.den (p.weight before) move
  moves_forced before move is =
      let row = row_after before in
      let own : IsForced a.den (weight_at a row) (sure_move a row) = forced a.den (weight_at a row) (sure row (walk_inside a a.start before valid valid.started)) in
      let made : IsForced a.den (weight_at a row) move = subst (λ m. IsForced a.den (weight_at a row) m) (sym is) own in
      let weighed : IsForced a.den (p.weight before) move = subst (λ w. IsForced a.den w move) (alike.weight before) made in
      subst (λ d. IsForced d (p.weight before) move) alike.den weighed

  forced_moves : (before : History) (move : Move) → IsForced p.den (p.weight before) move → move ≡ sure_move a (row_after before)
  forced_moves before move is =
      let over : IsForced a.den (p.weight before) move = subst (λ d. IsForced d (p.weight before) move) (sym alike.den) is in
      let weighed : IsForced a.den (weight_at a (row_after before)) move = subst (λ w. IsForced a.den w move) (sym (alike.weight before)) over in
      only_move a.den (weight_at a (row_after before)) move valid.some weighed

play_is : (play : Play) (mine theirs : Move) → play.mine ≡ mine → play.theirs ≡ theirs → play ≡ record { mine = mine; theirs = theirs }
play_is play mine theirs e f =
    let first : play ≡ record { mine = mine; theirs = play.theirs } = ap (λ m. record { mine = m; theirs = play.theirs }) e in
    first ∙ ap (λ t. record { mine = mine; theirs = t }) f

pub path_by_rules : PathIsOne → (a b : Automaton) (p q : Chooser) (n : ℕ) → IsAutomaton a → IsAutomaton b → IsSure a → IsSure b
    → ChooseAlike (player a) p → ChooseAlike (player b) q → IsOnlyByRules p q n (match_path a b n)
path_by_rules law a b p q n valid_a valid_b sure_a sure_b alike_a alike_b =
    let follows : Follows a a.start b b.start n (match_path a b n) = (law a a.start b b.start n (match_path a b n)).1 refl in
    record {
      by_rules = record {
        length_is = follows.length_is;
        moves = λ before play after cut.
            let is = follows.plays before play after cut in (
              moves_forced a p valid_a sure_a alike_a before play.mine (ap (λ (one : Play). one.mine) is),
              moves_forced b q valid_b sure_b alike_b (turned before) play.theirs (ap (λ (one : Play). one.theirs) is),
            );
      };
      only = λ other ruled.
          let other_follows : Follows a a.start b b.start n other = record {
            length_is = ruled.length_is;
            plays = λ before play after cut.
                let forced_both = ruled.moves before play after cut in
                play_is play _ _ (forced_moves a p valid_a sure_a alike_a before play.mine forced_both.0)
                (forced_moves b q valid_b sure_b alike_b (turned before) play.theirs forced_both.1);
          } in
          (law a a.start b b.start n other).0 other_follows;
    }
