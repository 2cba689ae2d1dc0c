use Rattle.std.proofs.Common.{arith}
use Rattle.toml.specs.View.{table_view}
use Rattle.lab_file.proofs.Readings.{lab_of_tree, no_document}
use Rattle.lab_file.proofs.read.read_lab.Goals as goal

pub returns-in-Ok : goal.returns-in-Ok
returns-in-Ok c = rw (lab_of_tree _ _ (table_view c.in-Ok.tree) (omega arith) c.in-Ok.ensures.ok.0 c.in-Ok.ensures.ok.1) c.lab_in.ensures

pub returns-else-is_memory : goal.returns-else-is_memory
returns-else-is_memory c = no_document _ _ (omega arith) (c.in-Err.ensures.refused (λ memory. absurd (cc (c.is_memory.ensures.1 memory))))
