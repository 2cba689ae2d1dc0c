use Rattle.std.proofs.Common.{arith}
use Rattle.machine_rows.proofs.Held.{rows_few}
use Rattle.machine_rows.proofs.machine.MachineRows.following.Goals as goal

pub overflow_cast-result : goal.overflow_cast-result
overflow_cast-result c = omega (arith, rows_few _ _ _ _ c.self.invariant, c.len.ensures)

pub overflow_add-result : goal.overflow_add-result
overflow_add-result c = omega (arith, rows_few _ _ _ _ c.self.invariant, c.len.ensures)
