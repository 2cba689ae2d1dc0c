use Rattle.std.proofs.Common.{◌+◌, ◌*◌, ◌≡◌, ◌≤◌, ◌<◌, sym, subst, ◌∙◌, arith}
use Rattle.strategy_trees.specs.Contest.{rows}
use Rattle.best_turns.specs.Meeting.{contest_of}
use Rattle.best_turns.specs.Rounded.{upper_of, lower_of, plan_of, HasCells, HasLayer, AreFound}
use Rattle.best_turns.proofs.Tables.{put_cell, one_number_more, one_move_more, upper_next, lower_next, plan_next, upper-few, lower-few, uppers-few, lowers-few, no_layer}
use Rattle.best_turns.proofs.induction.add_turn.Goals as goal
use Rattle.best_turns.proofs.induction.add_turn.Goals.{After-cell_of-cell}

pub cell_of-cell-requires-clause-uppers : goal.cell_of-cell-requires-clause-uppers
cell_of-cell-requires-clause-uppers c =
    let k = contest_of c.args.prepared.now in
    rw c.deref.ensures.value (uppers-few k c.requires.prepared.contest c.args.t c.args.below.now.uppers.items c.requires.prepared.game (omega arith) c.requires.below.high)

pub cell_of-cell-requires-clause-lowers : goal.cell_of-cell-requires-clause-lowers
cell_of-cell-requires-clause-lowers c =
    let k = contest_of c.args.prepared.now in
    rw c.deref-in-loop-row.ensures.value
    (lowers-few k c.requires.prepared.contest c.args.t c.args.below.now.lowers.items c.requires.prepared.game (omega arith) c.requires.below.low)

here : (c : After-cell_of-cell) → c.loop-row.row < rows (contest_of c.args.prepared.now)
here c = omega (arith, c.requires.prepared.stances.size, c.loop-row-test.true, c.len-row-end.ensures)

upper : (c : After-cell_of-cell) → c.cell_of-cell.result.upper ≡ upper_of (contest_of c.args.prepared.now) (c.args.t + 1) c.loop-row.row
upper c =
    let k = contest_of c.args.prepared.now in
    let below = subst (HasCells (upper_of k c.args.t) (rows k) (rows k)) (sym c.deref.ensures.value) c.requires.below.high in
    c.cell_of-cell.ensures.upper ∙ upper_next k c.requires.prepared.contest c.args.t c.loop-row.row c.deref.result.now below (here c)

lower : (c : After-cell_of-cell) → c.cell_of-cell.result.lower ≡ lower_of (contest_of c.args.prepared.now) (c.args.t + 1) c.loop-row.row
lower c =
    let k = contest_of c.args.prepared.now in
    let below = subst (HasCells (lower_of k c.args.t) (rows k) (rows k)) (sym c.deref-in-loop-row.ensures.value) c.requires.below.low in
    c.cell_of-cell.ensures.lower ∙ lower_next k c.requires.prepared.contest c.args.t c.loop-row.row c.deref-in-loop-row.result.now below (here c)

by : (c : After-cell_of-cell) → c.cell_of-cell.result.by ≡ plan_of (contest_of c.args.prepared.now) (c.args.t + 1) c.loop-row.row
by c =
    let k = contest_of c.args.prepared.now in
    let below = subst (HasCells (lower_of k c.args.t) (rows k) (rows k)) (sym c.deref-in-loop-row.ensures.value) c.requires.below.low in
    c.cell_of-cell.ensures.by ∙ plan_next k c.requires.prepared.contest c.args.t c.loop-row.row c.deref-in-loop-row.result.now below (here c)

pub add_cell-requires : goal.add_cell-requires
add_cell-requires c =
    let k = contest_of c.args.prepared.now in
    let at = (goal.at.add_cell-requires c).After-cell_of-cell in
    let more : c.args.t + 1 ≤ 2000 = omega (arith, c.requires.few) in
    record {
      upper = rw (upper at) (upper-few k c.requires.prepared.contest (c.args.t + 1) c.loop-row.row c.requires.prepared.game more (here at));
      lower = rw (lower at) (lower-few k c.requires.prepared.contest (c.args.t + 1) c.loop-row.row c.requires.prepared.game more (here at));
    }

pub loop-row-init : goal.loop-row-init
loop-row-init c =
    let k = contest_of c.args.prepared.now in
    let n : c.args.t * rows k + 0 ≡ c.args.t * rows k = omega arith in
    record {
      inside = omega arith;
      layer = no_layer k (c.args.t + 1) c.args.above.now c.requires.high c.requires.low;
      found = rw n c.requires.found;
    }

pub loop-row-preserved : goal.loop-row-preserved
loop-row-preserved c =
    let k = contest_of c.args.prepared.now in
    let at = (goal.at.loop-row-preserved c).After-cell_of-cell in
    let t = c.args.t in
    let row = c.loop-row.row in
    let cell = c.cell_of-cell.result in
    let inside : row < rows k = here at in
    let i = c.loop-row.invariant in
    record {
      inside = omega (arith, inside);
      layer = record {
        high = put_cell (upper_of k (t + 1)) (rows k) row c.loop-row.above.uppers.items cell.upper i.layer.high inside (upper at);
        low = put_cell (lower_of k (t + 1)) (rows k) row c.loop-row.above.lowers.items cell.lower i.layer.low inside (lower at);
      };
      found = record {
        high = rw c.in_ok-add_cell.ensures.uppers (one_number_more (upper_of k) (rows k) t row c.loop-row.found.uppers.items cell.upper inside i.found.high (upper at));
        low = rw c.in_ok-add_cell.ensures.lowers (one_number_more (lower_of k) (rows k) t row c.loop-row.found.lowers.items cell.lower inside i.found.low (lower at));
        plan = rw c.in_ok-add_cell.ensures.moves (one_move_more (plan_of k) (rows k) t row c.loop-row.found.moves.items cell.by inside i.found.plan (by at));
      };
    }

pub returns : goal.returns
returns c =
    let k = contest_of c.args.prepared.now in
    let end : c.loop-row.row ≡ rows k = omega (arith, c.requires.prepared.stances.size, c.len-row-end.ensures, c.loop-row-test.false, c.loop-row.invariant.inside) in
    let n : c.args.t * rows k + c.loop-row.row ≡ (c.args.t + 1) * rows k = omega (arith, end) in
    record {
      above = subst (λ j. HasLayer k (c.args.t + 1) j c.loop-row.above) end c.loop-row.invariant.layer;
      found = subst (λ j. AreFound k j c.loop-row.found) n c.loop-row.invariant.found;
    }
