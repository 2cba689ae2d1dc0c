use Rattle.player_core.proofs.Growing.{fell_through}
use Rattle.player_core.proofs.bench.Bench.notes.Goals as goal

pub returns-clause-returns : goal.returns-clause-returns
returns-clause-returns g c = record {
  left = fell_through _ _ _ c.restart.ensures.left c.read_notes-found.ensures.returns;
  right = c.restart.ensures.right.none_fell;
}
