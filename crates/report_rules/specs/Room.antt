-- The sizes that the lines of a tournament keep while they are read.
use Rattle.std.specs.Prelude.{ℕ, ◌+◌, ◌*◌, ◌≤◌, All, List, length}
use Rattle.result_lines.specs.Totals.{AreSummable}
use Rattle.report_rules.specs.declared.table.Table.{Table}

-- few lines, at most two names a match and one an entry, and scores that can be summed
pub record HasTableRoom (names : List (List ℕ)) (table : Table) : Type 0 where
  pub few_matches : length table.matches ≤ 2080
  pub few_entries : length table.entries ≤ 64
  pub few_names : length names ≤ 2 * length table.matches + length table.entries
  pub scores : All AreSummable table.matches
