-- What the opponent does at a row.
use Rattle.std.proofs.Common.{ℕ, ◌+◌, ◌≡◌, ◌≤◌, ◌<◌, inl, inr, List, [], ◌∷◌, ◌++◌, length, length-append, sym, ap, ◌∙◌, subst, arith}
use Rattle.std.proofs.lemmas.Bool.{cases_lt}
use Rattle.std.proofs.lemmas.List.{get_or_append_left, get_or_push}
use Rattle.history_model.specs.declared.moves.Move.TheVariants.{C, D}
use Rattle.history_model.specs.Automaton.{Row, IsAutomaton, row_at, next_of}
use Rattle.history_model.specs.Expectation.{shown}
use Rattle.strategy_trees.specs.Contest.{Contest, rows}
use Rattle.best_turns.specs.declared.meeting.Stance.{Stance}
use Rattle.best_turns.specs.Meeting.{IsStance, AreStances}

pub stance_is : (c : Contest) (row : ℕ) (at : Row) (s : Stance) → IsAutomaton c.opponent → row < rows c → at ≡ row_at c.opponent row →
    s.c ≡ shown c.noise c.opponent.den at.weight C → s.d ≡ shown c.noise c.opponent.den at.weight D → s.c + s.d ≤ 1000000 →
    s.cc ≡ at.cc → s.cd ≡ at.dc → s.dc ≡ at.cd → s.dd ≡ at.dd → IsStance c row s
stance_is c row at s ok h e hc hd few cc cd dc dd =
    let ecc : s.cc ≡ next_of (row_at c.opponent row) C C = cc ∙ ap (λ (r : Row). r.cc) e in
    let ecd : s.cd ≡ next_of (row_at c.opponent row) D C = cd ∙ ap (λ (r : Row). r.dc) e in
    let edc : s.dc ≡ next_of (row_at c.opponent row) C D = dc ∙ ap (λ (r : Row). r.cd) e in
    let edd : s.dd ≡ next_of (row_at c.opponent row) D D = dd ∙ ap (λ (r : Row). r.dd) e in
    record {
      c_weight = hc ∙ ap (λ (r : Row). shown c.noise c.opponent.den r.weight C) e;
      d_weight = hd ∙ ap (λ (r : Row). shown c.noise c.opponent.den r.weight D) e;
      few = few;
      cc_next = ecc;
      cd_next = ecd;
      dc_next = edc;
      dd_next = edd;
      cc_row = subst (λ k. k < rows c) (sym ecc) (ok.closed row C C h);
      cd_row = subst (λ k. k < rows c) (sym ecd) (ok.closed row D C h);
      dc_row = subst (λ k. k < rows c) (sym edc) (ok.closed row C D h);
      dd_row = subst (λ k. k < rows c) (sym edd) (ok.closed row D D h);
    }

pub one_stance_more : (c : Contest) (n : ℕ) (all : List Stance) (s : Stance) → AreStances c n all → IsStance c n s → AreStances c (n + 1) (all ++ s ∷ [])
one_stance_more c n all s h new = record {
  size = length-append all (s ∷ []) ∙ ap (λ k. k + 1) h.size;
  each = λ row d less. elim (cases_lt row n) [
    | inl l ↦ (let inside : row < length all = rw h.size l in rw (get_or_append_left all (s ∷ []) d row inside) (h.each row d l))
    | inr l ↦ (let e : row ≡ n = omega arith in rw (get_or_push all s d row (h.size ∙ sym e)) (subst (λ k. IsStance c k s) (sym e) new))
  ];
}
