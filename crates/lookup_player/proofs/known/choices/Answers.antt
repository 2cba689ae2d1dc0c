use Rattle.std.proofs.Common.{arith}
use Rattle.std.proofs.lemmas.Nat.{one_shl}
use Rattle.lookup_player.proofs.Places.{at_most}
use Rattle.lookup_player.proofs.known.choices.Goals as goal

pub returns-clause-within : goal.returns-clause-within
returns-clause-within c =
    omega (arith, one_shl c.min.result 32 (omega arith), at_most c.min.result 4 (omega arith))
