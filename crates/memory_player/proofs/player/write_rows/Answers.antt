use Rattle.std.proofs.Common.{arith, length-set}
use Rattle.memory_player.proofs.Vectors.{five_rows, vector_valid}
use Rattle.memory_player.proofs.player.write_rows.Goals as goal

pub loop-place-preserved : goal.loop-place-preserved
loop-place-preserved c =
    let five = five_rows c.args.sheet.now (c.shape.ensures.memory_one c.requires.vector) in
    record {
      room = simp length-set c.loop-place.invariant.room;
      rows = c.rows_are_held.ensures.more c.loop-place.table.items _ c.loop-place.place c.row_of.result (omega arith) (omega arith) c.loop-place.invariant.rows c.row_of.ensures;
    }

pub returns-clause-rows : goal.returns-clause-rows
returns-clause-rows c =
    c.rows_are_held.ensures.all _ _ c.loop-place.place 5 (omega arith) (five_rows c.args.sheet.now (c.shape.ensures.memory_one c.requires.vector)) c.loop-place.invariant.rows

pub returns-clause-valid : goal.returns-clause-valid
returns-clause-valid c = vector_valid c.args.sheet.now (c.shape.ensures.memory_one c.requires.vector)
