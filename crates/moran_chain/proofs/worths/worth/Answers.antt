use Rattle.std.proofs.Common.{arith, rules, ◌≡◌, ◌-◌, ◌*◌, ◌^◌, ◌≤◌, pos, ◌+ℤ◌, ◌*ℤ◌, ◌≤ℤ◌, FitsSigned}
use Rattle.std.specs.Int.{w128}
use Rattle.std.proofs.lemmas.Int.{ints, to_z-of_z}
use Rattle.fixed_span.specs.Span.{score_units}
use Rattle.moran_chain.proofs.Scoring.{low_end}
use Rattle.moran_chain.proofs.worths.worth.Goals as goal

pub weighed-second-requires-clause-within : goal.weighed-second-requires-clause-within
weighed-second-requires-clause-within c =
    let b = (c.args.wd - c.args.wn) * (c.args.turns * score_units) in
    let some : 1 ≤ c.args.wn = omega arith in
    let all : pos 0 ≤ℤ (pos b +ℤ pos c.args.wn *ℤ c.args.end) = omega (arith, ints, c.requires.enough) in
    let small : b ≤ 10 ^ 26 = omega (arith, ints, c.base-first.ensures.value, c.base-first.ensures.bound) in
    record { low = omega (arith, ints, low_end c.args.wn b c.args.end some all); high = omega (arith, ints) }

pub overflow_cast-result-2 : goal.overflow_cast-result-2
overflow_cast-result-2 c =
    let f : FitsSigned w128 c.args.end = search rules in
    let value : c.weighed-second.result ≡ pos c.args.wn *ℤ c.args.end = simp to_z-of_z at c.weighed-second.ensures.value in
    (omega (arith, ints, value), omega (arith, ints, value))
