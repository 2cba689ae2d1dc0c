use Rattle.std.proofs.Common.{arith, ◌≡◌, ◌<◌, length, subst}
use Rattle.mean_response.specs.Graph.{opponent_of, game_of}
use Rattle.mean_response.specs.Walks.{IsPart}
use Rattle.mean_response.proofs.Walking.{next_layer, gain-few}
use Rattle.mean_response.proofs.Parts.{part_skip, part_two}
use Rattle.mean_response.proofs.layers.layer.Goals as goal
use Rattle.mean_response.proofs.layers.layer.Goals.{then-best-gt0, else-best-gt0}

pub loop-row-preserved : goal.loop-row-preserved
loop-row-preserved c =
    let them = (opponent_of c.args.graph.now) in
    let game = (game_of c.args.graph.now) in
    let below = c.args.below.now in
    let v = c.loop-row.row in
    let inside : v < length them.rows = omega arith in
    let part : IsPart them game c.args.moves below v c.loop-row.above.items = c.loop-row.invariant.part in
    record {
      inside = omega arith;
      part = elim c.if-best-gt0.branch [
        | then-best-gt0 w ↦ rw w.above-is (part_two them game c.requires.graph.automaton c.args.moves below v inside (c.requires.below.bound v) (λ m. gain-few them game c.requires.graph.game v m)
            c.loop-row.above.items w.follow.new.above.items w.follow-then-best-gt0.new.above.items w.if-best-gt0.true w.follow.ensures w.follow-then-best-gt0.ensures part)
        | else-best-gt0 w ↦ rw w.above-is (part_skip them game c.requires.graph.automaton c.args.moves below v inside (c.requires.below.bound v) (λ m. gain-few them game c.requires.graph.game v m) c.loop-row.above.items w.if-best-gt0.false part)
      ];
    }

pub returns : goal.returns
returns c =
    let them = (opponent_of c.args.graph.now) in
    let at : c.loop-row.row ≡ length them.rows = (let i = c.loop-row.invariant.inside in omega arith) in
    next_layer them (game_of c.args.graph.now) c.requires.graph.automaton c.args.moves c.args.below.now c.loop-row.above.items c.requires.below
    (subst (λ n. IsPart them (game_of c.args.graph.now) c.args.moves c.args.below.now n c.loop-row.above.items) at c.loop-row.invariant.part)
