use Rattle.std.proofs.Common.{arith, ◌≡◌, ℕ, ◌+◌, ◌<◌, List, length, get_or, ap, sym, subst, ◌∙◌}
use Rattle.std.specs.Vec.{with_items}
use Rattle.history_model.specs.declared.moves.Move.TheVariants.{C, D}
use Rattle.product_chain.specs.declared.course.Fork.{Fork}
use Rattle.product_chain.specs.Course.{AreWeights}
use Rattle.product_chain.specs.Layer.{IsRow, own_rows, other_rows}
use Rattle.product_chain.specs.Wide.{wide_grain}
use Rattle.product_chain.proofs.Forking.{place_within, fork_there}
use Rattle.product_chain.proofs.WideCells.{sum_row_within, read_sums, one_more_row}
use Rattle.product_chain.proofs.Tables.{put_next, put_sized, put_length, written}
use Rattle.product_chain.proofs.wide.fill_layer.Goals as goal

pub fill_row-requires-clause-within_c : goal.fill_row-requires-clause-within_c
fill_row-requires-clause-within_c c =
    let s = c.args.plan.now.side.now in
    let g = wide_grain s c.args.plan.now.scale in
    let course = c.args.plan.now.after_c in
    let u = c.loop-u.u in
    let hu : u < own_rows s = omega (arith, c.loop-u.invariant.table.size, c.loop-u-test.true) in
    let within = place_within s.own.now C course.forks.items course.places.items u c.index-in-loop-u.result.now c.requires.plan.after_c.forks hu c.index-in-loop-u.ensures in
    let e : Fork = record { c = 0; d = 0 } in
    let row = read_sums s g c.args.n C course.forks.items c.args.if_c.now c.index-in-loop-u.result.now c.index-if_c-index.result c.deref.result.now e c.requires.if_c within c.index-if_c-index.is c.deref.ensures.value in
    sum_row_within s c.requires.valid c.args.plan.now.scale c.args.n c.args.turns c.requires.n c.requires.scale C _ c.deref.result.now row

pub fill_row-requires-clause-within_d : goal.fill_row-requires-clause-within_d
fill_row-requires-clause-within_d c =
    let s = c.args.plan.now.side.now in
    let g = wide_grain s c.args.plan.now.scale in
    let course = c.args.plan.now.after_d in
    let u = c.loop-u.u in
    let hu : u < own_rows s = omega (arith, c.loop-u.invariant.table.size, c.loop-u-test.true) in
    let within = place_within s.own.now D course.forks.items course.places.items u c.index-in-loop-u-2.result.now c.requires.plan.after_d.forks hu c.index-in-loop-u-2.ensures in
    let e : Fork = record { c = 0; d = 0 } in
    let row = read_sums s g c.args.n D course.forks.items c.args.if_d.now c.index-in-loop-u-2.result.now c.index-if_d-index.result c.deref-in-loop-u.result.now e c.requires.if_d within c.index-if_d-index.is c.deref-in-loop-u.ensures.value in
    sum_row_within s c.requires.valid c.args.plan.now.scale c.args.n c.args.turns c.requires.n c.requires.scale D _ c.deref-in-loop-u.result.now row

pub loop-u-preserved : goal.loop-u-preserved
loop-u-preserved c =
    let s = c.args.plan.now.side.now in
    let scale = c.args.plan.now.scale in
    let g = wide_grain s scale in
    let n = c.args.n in
    let after_c = c.args.plan.now.after_c in
    let after_d = c.args.plan.now.after_d in
    let u = c.loop-u.u in
    let hu : u < own_rows s = omega (arith, c.loop-u.invariant.table.size, c.loop-u-test.true) in
    let e : Fork = record { c = 0; d = 0 } in
    let place_c = c.index-in-loop-u.result.now in
    let place_d = c.index-in-loop-u-2.result.now in
    let within_c = place_within s.own.now C after_c.forks.items after_c.places.items u place_c c.requires.plan.after_c.forks hu c.index-in-loop-u.ensures in
    let within_d = place_within s.own.now D after_d.forks.items after_d.places.items u place_d c.requires.plan.after_d.forks hu c.index-in-loop-u-2.ensures in
    let fork_c = fork_there s.own.now C after_c.forks.items after_c.places.items u place_c c.requires.plan.after_c.forks hu c.index-in-loop-u.ensures e in
    let fork_d = fork_there s.own.now D after_d.forks.items after_d.places.items u place_d c.requires.plan.after_d.forks hu c.index-in-loop-u-2.ensures e in
    let row_c = read_sums s g n C after_c.forks.items c.args.if_c.now place_c c.index-if_c-index.result c.deref.result.now e c.requires.if_c within_c c.index-if_c-index.is c.deref.ensures.value in
    let row_d = read_sums s g n D after_d.forks.items c.args.if_d.now place_d c.index-if_d-index.result c.deref-in-loop-u.result.now e c.requires.if_d within_d c.index-if_d-index.is c.deref-in-loop-u.ensures.value in
    let weights = c.args.plan.now.own_weights.items in
    let w = c.index.result.now in
    let weighed : AreWeights s.own.now s.own_noise.now u w = subst (AreWeights s.own.now s.own_noise.now u) (sym c.index.ensures) (c.requires.plan.own_weights.each u w hu) in
    let cells = c.fill_row.new.cells in
    let old = c.index-layer-u.result in
    let layer = c.loop-u.layer in
    let here : u < length layer = rw c.loop-u.invariant.table.size hu in
    let old_wide : length c.as_mut_slice.result.now ≡ other_rows s = ap length c.as_mut_slice.ensures.value ∙ c.loop-u.invariant.table.each u old hu in
    let wide : length cells ≡ other_rows s = c.fill_row.auto.cells ∙ old_wide in
    let mixed0 = c.fill_row.ensures in
    let mixed = rw (old_wide, c.requires.plan.by) at mixed0 in
    let right = one_more_row s c.requires.valid scale n c.args.turns c.requires.n c.requires.scale u w (get_or after_c.forks.items place_c e) (get_or after_d.forks.items place_d e)
    c.deref.result.now c.deref-in-loop-u.result.now cells weighed fork_c fork_d row_c row_d wide mixed in
    let new = with_items (get_or layer u old) cells in
    let is : new.items ≡ cells = written (get_or layer u old) cells (wide ∙ sym (c.loop-u.invariant.table.each u old hu)) in
    let P : ℕ → List ℕ → Type 0 = λ j xs. IsRow s g (n + 1) j xs in
    record {
      table = record {
        size = put_length layer u new here ∙ c.loop-u.invariant.table.size;
        each = put_sized layer u new here (own_rows s) (other_rows s) c.loop-u.invariant.table.each (ap length is ∙ wide);
      };
      each = put_next layer u new here P c.loop-u.invariant.each (subst (P u) (sym is) right);
    }
