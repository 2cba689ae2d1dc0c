use Rattle.std.proofs.Common.{arith, ◌<◌, length, ◌∙◌}
use Rattle.mean_response.specs.Graph.{opponent_of, game_of}
use Rattle.mean_response.specs.Walks.{layers_of}
use Rattle.mean_response.proofs.Ratios.{edge_in}
use Rattle.mean_response.proofs.lasso.before.Goals as goal

pub unreachable-requires : goal.unreachable-requires
unreachable-requires c =
    let e = edge_in (opponent_of c.args.graph.now) (game_of c.args.graph.now) c.requires.graph.automaton (layers_of c.args.table.now.items) c.requires.table c.args.moves c.args.to c.requires.moves c.requires.to c.requires.some in
    let inside : e.from < length (opponent_of c.args.graph.now).rows = e.inside in
    c.loop-row.invariant.none e.from e.by (omega arith) e.leads e.some (c.loop-row.invariant.x ∙ e.value)
