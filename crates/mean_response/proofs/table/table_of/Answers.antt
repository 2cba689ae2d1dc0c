use Rattle.std.proofs.Common.{arith, ◌≡◌, ◌<◌, ◌+◌, ◌++◌, ◌∷◌, [], length, sym, ap, ◌∙◌, slice_index_or, length-append}
use Rattle.mean_response.specs.Graph.{opponent_of, game_of}
use Rattle.mean_response.specs.Walks.{layers_of}
use Rattle.mean_response.proofs.Tables.{push_layer, pushed_size, layer_item}
use Rattle.mean_response.proofs.table.table_of.Goals as goal

pub loop-moves-init : goal.loop-moves-init
loop-moves-init c =
    let them = (opponent_of c.args.graph.now) in
    let game = (game_of c.args.graph.now) in
    let e : c.push.new.self.items ≡ c.in_ok-layers.layers.items ++ c.in_ok-first.field-0 ∷ [] = c.in_ok-push.ensures.items in
    let z : length c.in_ok-layers.layers.items ≡ 0 = ap length c.in_ok-layers.ensures.items in
    let count : length c.push.new.self.items ≡ 1 = ap length e ∙ length-append c.in_ok-layers.layers.items (c.in_ok-first.field-0 ∷ []) ∙ ap (λ n. n + 1) z in
    record {
      inside = omega arith;
      count = count;
      size = pushed_size c.push.new.self.items ∙ count;
      each = (rw e (push_layer them game 0 c.in_ok-layers.layers.items c.in_ok-first.field-0 z (λ k h. absurd (omega arith)) c.in_ok-first.ensures));
    }

pub layer-requires-clause-below : goal.layer-requires-clause-below
layer-requires-clause-below c =
    let inside : c.loop-moves.moves < length c.loop-moves.layers.items = (let n = c.loop-moves.invariant.count in omega arith) in
    let at : c.index.result.now ≡ slice_index_or c.loop-moves.layers.items c.loop-moves.moves c.index.result.now = c.index.ensures in
    let e : slice_index_or (layers_of c.loop-moves.layers.items) c.loop-moves.moves [] ≡ c.deref.result.now = layer_item c.loop-moves.layers.items c.loop-moves.moves c.index.result.now inside ∙ ap (λ l. l.items) (sym at) ∙ sym c.deref.ensures.value in
    rw e at (c.loop-moves.invariant.each c.loop-moves.moves (omega arith))

pub loop-moves-preserved : goal.loop-moves-preserved
loop-moves-preserved c =
    let them = (opponent_of c.args.graph.now) in
    let game = (game_of c.args.graph.now) in
    let e : c.push-in-loop-moves.new.self.items ≡ c.loop-moves.layers.items ++ c.in_ok-next.next ∷ [] = c.in_ok-push-2.ensures.items in
    let n : length c.loop-moves.layers.items ≡ c.loop-moves.moves + 1 = c.loop-moves.invariant.count in
    let count : length c.push-in-loop-moves.new.self.items ≡ c.loop-moves.moves + 1 + 1 = ap length e ∙ length-append c.loop-moves.layers.items (c.in_ok-next.next ∷ []) ∙ ap (λ n. n + 1) n in
    record {
      inside = omega arith;
      count = count;
      size = pushed_size c.push-in-loop-moves.new.self.items ∙ count;
      each = rw e (push_layer them game (c.loop-moves.moves + 1) c.loop-moves.layers.items c.in_ok-next.next n c.loop-moves.invariant.each c.in_ok-next.ensures);
    }
