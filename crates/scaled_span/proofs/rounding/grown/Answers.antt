use Rattle.std.proofs.Common.{arith, ◌≡◌, ◌*◌, ◌^◌, ◌%◌}
use Rattle.std.proofs.Math.Nat.{mod-eq_of_lt}
use Rattle.scaled_span.proofs.rounding.grown.Goals as goal

pub overflow_cast-result : goal.overflow_cast-result
overflow_cast-result c = let e : c.args.p * 2 ^ c.args.k % 2 ^ 128 ≡ c.args.p * 2 ^ c.args.k = mod-eq_of_lt (omega arith) in record { fits = omega (arith, e) }

pub returns : goal.returns
returns c = mod-eq_of_lt (omega arith)
