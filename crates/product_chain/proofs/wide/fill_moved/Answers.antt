use Rattle.std.proofs.Common.{rules, ◌≡◌, ℕ, ◌<◌, List, length, get_or, ap, sym, subst, ◌∙◌}
use Rattle.std.proofs.lemmas.List.{get_or_default}
use Rattle.std.specs.Vec.{with_items}
use Rattle.product_chain.specs.declared.course.Fork.{Fork}
use Rattle.product_chain.specs.Layer.{other_rows}
use Rattle.product_chain.specs.Wide.{wide_grain, IsSumRow}
use Rattle.product_chain.proofs.Forking.{fork_inside}
use Rattle.product_chain.proofs.WideCells.{row_room, sum_row}
use Rattle.product_chain.proofs.Tables.{put_next, put_sized, put_length, layer_row, written}
use Rattle.product_chain.proofs.wide.fill_moved.Goals as goal

pub fill_moved_row-requires-clause-room_c : goal.fill_moved_row-requires-clause-room_c
fill_moved_row-requires-clause-room_c c =
    let s = c.args.plan.now.side.now in
    let scale = c.args.plan.now.scale in
    let fork = c.index-fork.result.now in
    let inside = fork_inside s.own.now c.args.mine c.args.course.now.forks.items c.args.course.now.places.items c.loop-k.k fork c.requires.course.forks (search rules) c.index-fork.ensures in
    let row = layer_row s (wide_grain s scale) c.args.n fork.c c.args.layer.now c.index-layer-fork.result c.deref-in-loop-k-2.result.now c.requires.layer inside.c c.index-layer-fork.is c.deref-in-loop-k-2.ensures.value in
    row_room s c.requires.valid scale c.args.n c.args.turns c.requires.n c.requires.scale c.gain-gain_c.result fork.c c.deref-in-loop-k-2.result.now c.gain-gain_c.ensures.within row

pub fill_moved_row-requires-clause-room_d : goal.fill_moved_row-requires-clause-room_d
fill_moved_row-requires-clause-room_d c =
    let s = c.args.plan.now.side.now in
    let scale = c.args.plan.now.scale in
    let fork = c.index-fork.result.now in
    let inside = fork_inside s.own.now c.args.mine c.args.course.now.forks.items c.args.course.now.places.items c.loop-k.k fork c.requires.course.forks (search rules) c.index-fork.ensures in
    let row = layer_row s (wide_grain s scale) c.args.n fork.d c.args.layer.now c.index-layer-fork-in-loop-k.result c.deref-in-loop-k-3.result.now c.requires.layer inside.d c.index-layer-fork-in-loop-k.is c.deref-in-loop-k-3.ensures.value in
    row_room s c.requires.valid scale c.args.n c.args.turns c.requires.n c.requires.scale c.gain-gain_d.result fork.d c.deref-in-loop-k-3.result.now c.gain-gain_d.ensures.within row

pub loop-k-preserved : goal.loop-k-preserved
loop-k-preserved c =
    let s = c.args.plan.now.side.now in
    let scale = c.args.plan.now.scale in
    let g = wide_grain s scale in
    let n = c.args.n in
    let mine = c.args.mine in
    let forks = c.args.course.now.forks.items in
    let k = c.loop-k.k in
    let fork = c.index-fork.result.now in
    let here : k < length forks = search rules in
    let inside = fork_inside s.own.now mine forks c.args.course.now.places.items k fork c.requires.course.forks here c.index-fork.ensures in
    let row_c = layer_row s g n fork.c c.args.layer.now c.index-layer-fork.result c.deref-in-loop-k-2.result.now c.requires.layer inside.c c.index-layer-fork.is c.deref-in-loop-k-2.ensures.value in
    let row_d = layer_row s g n fork.d c.args.layer.now c.index-layer-fork-in-loop-k.result c.deref-in-loop-k-3.result.now c.requires.layer inside.d c.index-layer-fork-in-loop-k.is c.deref-in-loop-k-3.ensures.value in
    let cells = c.fill_moved_row.new.cells in
    let place = c.index-cells-k.result in
    let old_wide : length c.as_mut_slice.result.now ≡ other_rows s =
    ap length c.as_mut_slice.ensures.value ∙ c.loop-k.invariant.sized k place here in
    let wide : length cells ≡ other_rows s = c.fill_moved_row.auto.cells ∙ old_wide in
    let drawn0 = c.fill_moved_row.ensures in
    let drawn = rw (old_wide, c.deref.ensures.value, c.deref-in-loop-k.ensures.value) at drawn0 in
    let moved = sum_row s c.requires.valid scale n c.args.turns c.requires.n c.requires.scale mine fork c.gain-gain_c.result c.gain-gain_d.result
    c.args.plan.now.other_weights.items c.deref-in-loop-k-2.result.now c.deref-in-loop-k-3.result.now cells c.args.course.now.answers.items
    c.requires.plan.other_weights c.requires.course.answers c.gain-gain_c.ensures.value c.gain-gain_c.ensures.within c.gain-gain_d.ensures.value c.gain-gain_d.ensures.within row_c row_d wide drawn in
    let new = with_items (get_or c.loop-k.cells k place) cells in
    let is : new.items ≡ cells = written (get_or c.loop-k.cells k place) cells (wide ∙ sym (c.loop-k.invariant.sized k place here)) in
    let there : k < length c.loop-k.cells = rw c.loop-k.invariant.size here in
    let P : ℕ → List ℕ → Type 0 = λ j xs. (e : Fork) → IsSumRow s g n mine (get_or forks j e) xs in
    let right : P k cells = λ e. subst (λ z. IsSumRow s g n mine z cells) (c.index-fork.ensures ∙ get_or_default forks k fork e here) moved in
    record {
      size = put_length c.loop-k.cells k new there ∙ c.loop-k.invariant.size;
      sized = put_sized c.loop-k.cells k new there (length forks) (other_rows s) c.loop-k.invariant.sized (ap length is ∙ wide);
      each = λ j d e h. put_next c.loop-k.cells k new there P (λ i t l r. c.loop-k.invariant.each i t r l) (subst (P k) (sym is) right) j d h e;
    }

pub returns : goal.returns
returns c =
    let end : c.loop-k.k ≡ length c.args.course.now.forks.items = search rules in
    rw (← end) c.loop-k.invariant
