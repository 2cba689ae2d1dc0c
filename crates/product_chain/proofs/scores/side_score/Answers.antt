use Rattle.std.proofs.Common.{ℕ, ◌*◌, ◌≡◌, ap, ◌∙◌, arith, ℤ, pos, ◌-ℤ◌}
use Rattle.std.proofs.lemmas.Int.{ints}
use Rattle.fixed_span.specs.Span.{Fraction}
use Rattle.product_chain.specs.Layer.{plays}
use Rattle.product_chain.proofs.scores.side_score.Goals as goal

not_lowered : (x n q : ℕ) → pos x -ℤ pos (0 * n * q) ≡ pos x
not_lowered x n q = omega (arith, ints)

pub returns-clause-fraction : goal.returns-clause-fraction
returns-clause-fraction c =
    let s = c.args.side.now in
    let n = c.args.turns in
    let r = c.requires.valid in
    let own = c.automata_are_weighed.ensures s.own.now s.own.now.start r.own r.own.started in
    let other = c.automata_are_weighed.ensures s.other.now s.other.now.start r.other r.other.started in
    let lowered = c.offset_lowers.ensures _ s.own_noise.now _ s.other_noise.now s.game.now 0 n own r.own_rate other r.other_rate in
    let by_rows = c.histories_agree_with_rows.ensures s.own.now s.own_noise.now s.other.now s.other_noise.now s.game.now n s.own.now.start s.other.now.start
    r.own r.own_rate r.other r.other_rate r.own.started r.other.started in
    let fraction : ℤ → Fraction = λ z. record { numerator = z; denominator = plays s n } in
    ap fraction (lowered ∙ not_lowered _ n (plays s n) ∙ ap pos by_rows)
