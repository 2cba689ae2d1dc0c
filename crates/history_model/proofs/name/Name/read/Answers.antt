use Rattle.std.proofs.Common.{arith}
use Rattle.std.proofs.lemmas.Bool.Decides.{nat_tests}
use Rattle.history_model.proofs.name.Name.read.Goals as goal

pub invariant_of-result : goal.invariant_of-result
invariant_of-result c = record {
  within = omega arith;
  whole = c.padded.ensures.length_is;
  rest = c.padded.ensures.rest;
  name = rw c.padded.ensures.front (grind (arith, nat_tests));
}

pub returns : goal.returns
returns c = (grind (arith, nat_tests), c.padded.ensures.front)
