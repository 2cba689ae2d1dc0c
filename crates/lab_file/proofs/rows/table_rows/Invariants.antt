use Rattle.std.proofs.Common.{◌≡◌, ◌≤◌, ◌*◌}
use Rattle.player_core.specs.Table.{base}
use Rattle.lab_file.proofs.rows.table_rows.Given as goal

abbrev pub invariant-loop-turns : goal.invariant-loop-turns
invariant-loop-turns l = (l.rows ≡ base l.sheet l.turns) × (l.rows ≤ 256 * l.turns)
