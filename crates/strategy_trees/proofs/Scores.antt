-- Scores of lists of own moves, and means, with an offset.
use Rattle.std.proofs.Common.{ℕ, ◌*◌, ◌≡◌, ℤ, pos, ◌+ℤ◌, ◌-ℤ◌, ◌*ℤ◌, List, [], ◌∷◌, length, ap, ◌∙◌, sym, subst, arith}
use Rattle.std.proofs.lemmas.Int.{ints}
use Rattle.history_model.specs.declared.moves.Move.{Move}
use Rattle.history_model.specs.Game.{Payoffs, pay}
use Rattle.history_model.specs.Automaton.{Automaton}
use Rattle.history_model.specs.Path.{sure_move}
use Rattle.history_model.specs.Mean.{step, led, led_score, StepsUp}
use Rattle.strategy_trees.specs.Lassos.{led_points, ScoresAreLowered, MeansAreLowered}
use Rattle.strategy_trees.proofs.Signed.{*ℤ--ℤ, -ℤ-*ℤ, *ℤ_assoc, pos-*ℤ}

pub scores_are_lowered_lem : ScoresAreLowered
scores_are_lowered_lem b game offset row [] = omega (arith, ints)
scores_are_lowered_lem b game offset row (move ∷ moves) = omega (arith, ints, scores_are_lowered_lem b game offset (step b row move) moves)

none : (x : ℤ) → x -ℤ pos 0 ≡ x
none x = omega (arith, ints)

step_lowered : (den h num p : ℤ) (offset : ℕ) → (h +ℤ den *ℤ (p -ℤ pos 0)) -ℤ num ≡ (h +ℤ den *ℤ (p -ℤ pos offset)) -ℤ (num -ℤ den *ℤ pos offset)
step_lowered den h num p offset = rw (none p, *ℤ--ℤ den p (pos offset)) (omega (arith, ints))

mean_lowered : ScoresAreLowered → (b : Automaton) (game : Payoffs) (offset row : ℕ) (num den : ℤ) (cycle : List Move) →
    den *ℤ led_score b game 0 row cycle ≡ num *ℤ pos (length cycle) →
    den *ℤ led_score b game offset row cycle ≡ (num -ℤ den *ℤ pos offset) *ℤ pos (length cycle)
mean_lowered scores b game offset row num den cycle e =
    let n = length cycle in
    let p = led_points b game row cycle in
    let free : led_score b game 0 row cycle ≡ pos p = scores b game 0 row cycle ∙ omega (arith, ints) in
    let whole : den *ℤ pos p ≡ num *ℤ pos n = ap (λ x. den *ℤ x) (sym free) ∙ e in
    let left : den *ℤ led_score b game offset row cycle ≡ den *ℤ pos p -ℤ den *ℤ pos (offset * n) =
    ap (λ x. den *ℤ x) (scores b game offset row cycle) ∙ *ℤ--ℤ den (pos p) (pos (offset * n)) in
    let right : (num -ℤ den *ℤ pos offset) *ℤ pos n ≡ num *ℤ pos n -ℤ den *ℤ pos (offset * n) =
    -ℤ-*ℤ num (den *ℤ pos offset) (pos n)
    ∙ ap (λ x. num *ℤ pos n -ℤ x) (*ℤ_assoc den (pos offset) (pos n) ∙ ap (λ x. den *ℤ x) (pos-*ℤ offset n)) in
    left ∙ ap (λ x. x -ℤ den *ℤ pos (offset * n)) whole ∙ sym right

pub means_are_lowered_lem : ScoresAreLowered → MeansAreLowered
means_are_lowered_lem scores b game offset num den = record {
  potentials = λ potential h. record {
    started = h.started;
    steps = λ row x move e. subst (StepsUp (potential (step b row move))) (step_lowered den x num (pos (pay game move (sure_move b row))) offset) (h.steps row x move e);
  };
  lassos = λ lead_in cycle mean. mean_lowered scores b game offset (led b b.start lead_in) num den cycle mean;
}
