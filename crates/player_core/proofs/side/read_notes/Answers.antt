use Rattle.std.proofs.Common.{arith}
use Rattle.player_core.proofs.Loops.{all_noted}
use Rattle.player_core.proofs.side.read_notes.Goals as goal

pub returns-clause-notes : goal.returns-clause-notes
returns-clause-notes g c = all_noted _ _ _ _ _ c.loop-k.invariant (omega arith)
