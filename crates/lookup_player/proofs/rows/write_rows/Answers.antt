use Rattle.std.proofs.Common.{arith, ap, sym, ◌∙◌, ◌≡◌, ◌+◌, refl}
use Rattle.player_core.specs.Sheet.{depth}
use Rattle.player_core.specs.Table.{base, table_rows}
use Rattle.lookup_player.proofs.Tables.{all_rows, few_rows, table_valid}
use Rattle.lookup_player.proofs.rows.write_rows.Goals as goal

pub returns-clause-within : goal.returns-clause-within
returns-clause-within c =
    let end : c.loop-turns.turns ≡ depth c.args.sheet.now + 1 = omega (arith, c.depth-turns-end.ensures.value) in
    omega (arith, c.loop-turns.invariant.counted, ap (base c.args.sheet.now) end, few_rows c.args.sheet.now c.depth-turns-end.ensures.valid)

pub returns-clause-rows : goal.returns-clause-rows
returns-clause-rows c =
    let end : c.loop-turns.turns ≡ depth c.args.sheet.now + 1 = omega (arith, c.depth-turns-end.ensures.value) in
    let count : c.loop-turns.rows ≡ table_rows c.args.sheet.now = c.loop-turns.invariant.counted ∙ ap (base c.args.sheet.now) end in
    c.rows_are_held.ensures.all c.loop-turns.table.items _ c.loop-turns.rows c.loop-turns.rows refl (all_rows c.args.sheet.now ∙ sym count) c.loop-turns.invariant.rows

pub returns-clause-valid : goal.returns-clause-valid
returns-clause-valid c = table_valid c.args.sheet.now c.depth-turns-end.ensures.valid
