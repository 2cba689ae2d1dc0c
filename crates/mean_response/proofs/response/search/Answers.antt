use Rattle.std.proofs.Common.{arith, ◌≡◌, length, take, subst, slice_range}
use Rattle.std.proofs.lemmas.Grind.{common_steps}
use Rattle.mean_response.specs.Graph.{opponent_of, game_of}
use Rattle.mean_response.specs.Walks.{layers_of, IsPeak, IsTurned}
use Rattle.mean_response.specs.Turns.{IsTurn}
use Rattle.mean_response.proofs.Lassos.{peak_lowest, lasso}
use Rattle.mean_response.proofs.response.search.Goals as goal
use Rattle.mean_response.proofs.response.search.Goals.{After-lowest-ratio}

peak : (c : After-lowest-ratio) → IsPeak (layers_of c.in_ok-table.table.items) (length (opponent_of c.args.graph.now).rows) c.highest-peak.result.at c.lowest-ratio.result.num c.lowest-ratio.result.den
peak c =
    peak_lowest (layers_of c.in_ok-table.table.items) (length (opponent_of c.args.graph.now).rows) c.highest-peak.result.at c.highest-peak.result.num c.highest-peak.result.den
    c.lowest-ratio.result.num c.lowest-ratio.result.den c.highest-peak.ensures.peak c.lowest-ratio.ensures.lowest.positive c.lowest-ratio.ensures.same

pub potentials_of-requires-clause-peak : goal.potentials_of-requires-clause-peak
potentials_of-requires-clause-peak c = (c.highest-peak.result.at, peak (goal.at.potentials_of-requires-clause-peak c).After-lowest-ratio)

pub returns-clause-lasso : goal.returns-clause-lasso
returns-clause-lasso c =
    let them = opponent_of c.args.graph.now in
    let game = game_of c.args.graph.now in
    let ls = layers_of c.in_ok-table.table.items in
    let ms = c.in_ok-moves.moves.items in
    let first = c.in_ok-turn.turn.first in
    let second = c.in_ok-turn.turn.second in
    let turn : IsTurn them ms first second = subst (λ xs. IsTurn them xs first second) c.deref.ensures.value c.in_ok-turn.ensures in
    let lead : c.in_ok-path.path.items ≡ take first ms = grind (arith, common_steps) in
    let turned : c.in_ok-cycle.cycle.items ≡ slice_range ms first second = grind (arith, common_steps) in
    let whole : IsTurned them game c.lowest-ratio.result.num c.lowest-ratio.result.den (take first ms) (slice_range ms first second) =
    lasso them game c.requires.automaton ls c.in_ok-table.ensures c.highest-peak.result.at c.lowest-ratio.result.num c.lowest-ratio.result.den
    (peak (goal.at.returns-clause-lasso c).After-lowest-ratio) ms c.in_ok-moves.ensures first second turn
    c.in_ok-potentials.potentials.items c.in_ok-potentials.ensures.each in
    rw (lead, turned) whole
