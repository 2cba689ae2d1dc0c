use Rattle.std.proofs.Common.{arith, length-set, ◌∙◌, sym}
use Rattle.machine_player.proofs.Machines.{all_rows, row_is, machine_valid}
use Rattle.machine_player.proofs.player.write_rows.Goals as goal

pub loop-row-preserved : goal.loop-row-preserved
loop-row-preserved c =
    let whole = all_rows c.args.sheet.now in
    record {
      room = simp length-set c.loop-row.invariant.room;
      rows = c.rows_are_held.ensures.more c.loop-row.table.items _ c.loop-row.row c.row_of.result (omega (arith, c.row_count-rows.ensures.valid.few_states)) (omega arith) c.loop-row.invariant.rows (c.row_of.ensures ∙ sym (row_is c.args.sheet.now c.loop-row.row (omega arith)));
    }

pub returns-clause-rows : goal.returns-clause-rows
returns-clause-rows c =
    c.rows_are_held.ensures.all _ _ c.loop-row.row c.row_count-rows.result (omega arith) (all_rows c.args.sheet.now ∙ sym c.row_count-rows.ensures.value) c.loop-row.invariant.rows

pub returns-clause-valid : goal.returns-clause-valid
returns-clause-valid c = machine_valid c.args.sheet.now c.row_count-rows.ensures.valid
