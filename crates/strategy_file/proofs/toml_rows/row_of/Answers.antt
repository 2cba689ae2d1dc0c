use Rattle.strategy_file.proofs.TomlRows.{no_row_short, no_row_long}
use Rattle.strategy_file.proofs.toml_rows.row_of.Goals as goal

pub returns-in_default : goal.returns-in_default
returns-in_default c = no_row_short c.args.array.now.items (rw c.as_slice.ensures.value at c.in_default.len_below)

pub returns-in_default-2 : goal.returns-in_default-2
returns-in_default-2 c = no_row_long c.args.array.now.items (rw c.as_slice.ensures.value at c.in_default.len_at_least)
