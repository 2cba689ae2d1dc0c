use Rattle.std.proofs.Common.{arith, rules, ◌≡◌, ◌*◌, pos, ◌+ℤ◌, ◌≤ℤ◌, FitsSigned}
use Rattle.std.specs.Int.{w128}
use Rattle.std.proofs.lemmas.Int.{ints, to_z-of_z}
use Rattle.fixed_span.specs.Span.{score_units}
use Rattle.fixed_span.proofs.Signed.{*ℤ-+ℤ, *ℤ-le_left}
use Rattle.moran_chain.specs.Fixation.{worth_of}
use Rattle.moran_chain.proofs.Scoring.{known_of}
use Rattle.moran_chain.proofs.worths.range_of.Goals as goal

pub worth-requires-2-clause-enough : goal.worth-requires-2-clause-enough
worth-requires-2-clause-enough c =
    let f : FitsSigned w128 c.ends-lo.result.1 = search rules in
    let lo : c.ends-lo.result.0 ≡ c.args.span.lo = c.ends-lo.ensures.lo in
    let hi : c.ends-lo.result.1 ≡ c.args.span.hi = c.ends-lo.ensures.hi in
    let o : c.args.span.lo ≤ℤ c.args.span.hi = rw (lo, hi) at c.ends-lo.ensures.ordered in
    simp to_z-of_z (rw hi (omega (arith, ints, c.requires.span.enough, *ℤ-le_left c.args.span.lo c.args.span.hi c.args.wn o)))

pub invariant_of-result : goal.invariant_of-result
invariant_of-result c =
    let f : FitsSigned w128 c.ends-lo.result.0 = search rules in
    let g : FitsSigned w128 c.ends-lo.result.1 = search rules in
    let x : c.ends-lo.result.0 ≡ c.args.span.lo = c.ends-lo.ensures.lo in
    let y : c.ends-lo.result.1 ≡ c.args.span.hi = c.ends-lo.ensures.hi in
    let o : c.args.span.lo ≤ℤ c.args.span.hi = rw (x, y) at c.ends-lo.ensures.ordered in
    let lo : pos c.worth.result ≡ worth_of c.args.wn c.args.wd (c.args.turns * score_units) c.args.span.lo = rw x at (simp to_z-of_z at c.worth.ensures.value) in
    let hi : pos c.worth-2.result ≡ worth_of c.args.wn c.args.wd (c.args.turns * score_units) c.args.span.hi = rw y at (simp to_z-of_z at c.worth-2.ensures.value) in
    record {
      some = omega (arith, ints, lo, c.requires.span.enough);
      ordered = omega (arith, ints, lo, hi, *ℤ-le_left c.args.span.lo c.args.span.hi c.args.wn o);
      bounded = c.worth-2.ensures.bound;
    }

pub returns-clause-narrow : goal.returns-clause-narrow
returns-clause-narrow c =
    let f : FitsSigned w128 c.ends-lo.result.0 = search rules in
    let g : FitsSigned w128 c.ends-lo.result.1 = search rules in
    let x : c.ends-lo.result.0 ≡ c.args.span.lo = c.ends-lo.ensures.lo in
    let y : c.ends-lo.result.1 ≡ c.args.span.hi = c.ends-lo.ensures.hi in
    let lo : pos c.worth.result ≡ worth_of c.args.wn c.args.wd (c.args.turns * score_units) c.args.span.lo = rw x at (simp to_z-of_z at c.worth.ensures.value) in
    let hi : pos c.worth-2.result ≡ worth_of c.args.wn c.args.wd (c.args.turns * score_units) c.args.span.hi = rw y at (simp to_z-of_z at c.worth-2.ensures.value) in
    known_of _ c.args.wn c.args.turns (omega arith)
    (omega (arith, ints, lo, hi, *ℤ-le_left c.args.span.hi (c.args.span.lo +ℤ pos c.args.turns) c.args.wn c.requires.span.narrow, *ℤ-+ℤ (pos c.args.wn) c.args.span.lo (pos c.args.turns)))
    (omega (arith, ints, lo, c.requires.span.enough))
