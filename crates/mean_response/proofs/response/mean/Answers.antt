use Rattle.std.proofs.Common.{◌≡◌, ℤ, pos, sym, subst, arith}
use Rattle.std.proofs.lemmas.Int.{ints}
use mir.Syntax.{w64}
use mir.Val.{to_z, of_z}
use Rattle.history_model.specs.Game.{Payoffs}
use Rattle.history_model.specs.Automaton.{Automaton, IsSure}
use Rattle.mean_response.specs.Graph.{opponent_of, game_of}
use Rattle.mean_response.proofs.Answering.{IsAnswer, answer}
use Rattle.mean_response.proofs.response.mean.Goals as goal

pub returns : goal.returns
returns c =
    let graph = c.in_ok-graph.graph in
    let found = c.in_ok-found.found in
    let s = c.in_ok-found.ensures in
    let same = c.in_ok-graph.ensures.opponent in
    let sure : IsSure (opponent_of graph) = subst IsSure (sym same) c.requires in
    let all : IsAnswer (opponent_of graph) (game_of graph) (pos found.num) (pos found.den) found.potentials.items found.path.items found.cycle.items =
    answer c.potentials_bound_trees.ensures c.scores_are_lowered.ensures c.lassos_score.ensures (opponent_of graph) (game_of graph) c.in_ok-graph.ensures.graph.automaton sure
    found.num found.den found.potentials.items found.path.items found.cycle.items s.lowest s.den_few s.size s.each s.lasso in
    let a = subst (λ (m : Automaton). IsAnswer m (game_of graph) (pos found.num) (pos found.den) found.potentials.items found.path.items found.cycle.items) same all in
    let b = subst (λ (g : Payoffs). IsAnswer c.args.grid.now g (pos found.num) (pos found.den) found.potentials.items found.path.items found.cycle.items) c.in_ok-graph.ensures.game a in
    let x = to_z w64 (of_z w64 c.signed.result) in
    let y = to_z w64 (of_z w64 c.signed-2.result) in
    let ex : x ≡ pos found.num = rw c.signed.ensures (let few = s.num_few in omega (arith, ints, few)) in
    let ey : y ≡ pos found.den = rw c.signed-2.ensures (let few = s.den_few in let rows = c.in_ok-graph.ensures.graph.automaton.few_rows in omega (arith, ints, few, rows)) in
    let d = subst (λ (num : ℤ). IsAnswer c.args.grid.now c.args.game.now num (pos found.den) found.potentials.items found.path.items found.cycle.items) (sym ex) b in
    let e = subst (λ (den : ℤ). IsAnswer c.args.grid.now c.args.game.now x den found.potentials.items found.path.items found.cycle.items) (sym ey) d in
    record {
      lowest = e.lowest;
      num = e.mean;
      size = e.size;
      greatest = e.greatest;
      start = e.start;
      in_range = e.in_range;
      potentials = e.are_potentials;
      lasso = e.lasso;
      mean = e.met;
      short = e.short;
      bounds_trees = e.bounds;
      lasso_scores = e.scores;
    }
