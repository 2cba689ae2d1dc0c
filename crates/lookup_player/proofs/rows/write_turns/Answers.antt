use Rattle.std.proofs.Common.{arith, length-set, ap, sym, ◌∙◌, ◌≡◌, ◌+◌, ℕ}
use Rattle.player_core.specs.Table.{table_row}
use Rattle.lookup_player.proofs.Tables.{all_rows, row_here, row_is}
use Rattle.lookup_player.proofs.rows.write_turns.Goals as goal

pub loop-place-preserved : goal.loop-place-preserved
loop-place-preserved c =
    let k : ℕ = c.args.fewer + c.loop-place.place in
    let more : c.args.fewer + (c.loop-place.place + 1) ≡ k + 1 = omega arith in
    let inside = row_here c.args.sheet.now c.args.turns k c.requires.shallow (omega (arith, c.rows_up_to-rows.ensures.value)) in
    let is = c.row_of.ensures ∙ ap (λ fewer. table_row c.args.sheet.now (fewer + c.loop-place.place)) (sym c.requires.fewer) ∙ sym (row_is c.args.sheet.now k (omega (arith, inside, all_rows c.args.sheet.now))) in
    record {
      room = simp length-set c.loop-place.invariant.room;
      rows = rw more (c.rows_are_held.ensures.more c.loop-place.table.items _ k c.row_of.result (omega (arith, c.rows_up_to-rows.ensures.within)) inside c.loop-place.invariant.rows is);
    }
