use Rattle.std.proofs.Common.{◌≡◌, [], drop, length}
use Rattle.toml.specs.View.{items_view}
use Rattle.job_tables.specs.Jobs.{AreEdges}
use Rattle.job_tables.specs.JobsOf.{edges_from}
use Rattle.job_tables.proofs.tournament.edges_from.Given as goal

abbrev pub invariant-loop-value : goal.invariant-loop-value
invariant-loop-value l = record {
  edges : edges_from l.names [] (items_view l.array.items) ≡ edges_from l.names l.before.items (items_view (drop l.value-index l.array.items));
  sound : AreEdges (length l.names) l.before.items;
}
