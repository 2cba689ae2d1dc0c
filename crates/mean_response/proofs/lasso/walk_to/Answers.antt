use Rattle.std.proofs.Common.{arith, ◌≡◌, ◌<◌, ◌+◌, ◌-◌, reverse, length, subst}
use Rattle.mean_response.specs.Graph.{opponent_of, game_of}
use Rattle.mean_response.specs.Walks.{layers_of, best_at}
use Rattle.mean_response.proofs.Turning.{IsBack, back_more, back_first, back_full}
use Rattle.mean_response.proofs.lasso.walk_to.Goals as goal

pub loop-i-init : goal.loop-i-init
loop-i-init c = record {
  rows = omega arith;
  back = rw c.in_ok-moves.ensures.items (back_first (opponent_of c.args.graph.now) (game_of c.args.graph.now) (layers_of c.args.table.now.items) c.args.at c.requires.row c.requires.some);
}

pub before-edge-requires-clause-some : goal.before-edge-requires-clause-some
before-edge-requires-clause-some c =
    let b : 0 < best_at (layers_of c.args.table.now.items) (length (opponent_of c.args.graph.now).rows - c.loop-i.i) c.loop-i.row = c.loop-i.invariant.back.some in
    let r : c.len-rows.result ≡ length (opponent_of c.args.graph.now).rows = c.loop-i.invariant.rows in
    let k : c.len-rows.result - 1 - c.loop-i.i + 1 ≡ length (opponent_of c.args.graph.now).rows - c.loop-i.i = omega arith in
    rw k b

pub loop-i-preserved : goal.loop-i-preserved
loop-i-preserved c =
    let r : c.len-rows.result ≡ length (opponent_of c.args.graph.now).rows = c.loop-i.invariant.rows in
    record {
      rows = r;
      back = back_more (opponent_of c.args.graph.now) (game_of c.args.graph.now) (layers_of c.args.table.now.items) c.args.at c.loop-i.i c.loop-i.moves.items c.push.new.self.items c.loop-i.row c.before-edge.result.from (c.len-rows.result - 1 - c.loop-i.i) c.before-edge.result.by
          c.loop-i.invariant.back (omega arith) c.in_ok-push.ensures.items c.before-edge.ensures.inside c.before-edge.ensures.leads c.before-edge.ensures.some c.before-edge.ensures.value;
    }

pub returns : goal.returns
returns c =
    let ls = layers_of c.args.table.now.items in
    let them = (opponent_of c.args.graph.now) in
    let r : c.len-rows.result ≡ length them.rows = c.loop-i.invariant.rows in
    let i : c.loop-i.i ≡ length them.rows = omega arith in
    let e : c.reverse.new.self.items ≡ reverse c.loop-i.moves.items = c.reverse.ensures.items in
    rw e (back_full them (game_of c.args.graph.now) c.requires.graph.automaton ls c.requires.table c.args.at c.loop-i.moves.items c.loop-i.row (subst (λ i. IsBack them (game_of c.args.graph.now) ls c.args.at i c.loop-i.moves.items c.loop-i.row) i c.loop-i.invariant.back))
