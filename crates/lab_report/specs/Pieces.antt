-- What of a report's text is still to come.
use Rattle.std.specs.Prelude.{ℕ, ◌≡◌, ◌≤◌, ◌⊎◌, List, [], ◌++◌, drop, length}
use Rattle.lab_report.specs.declared.pieces.Pieces.{Pieces}
use Rattle.report_rules.specs.Text.{lines_of, text_of_lines}

-- what was written and not given out, and then the lines that weren't written
abbrev pub to_come : Pieces → List ℕ
to_come pieces = pieces.ready.items ++ text_of_lines (drop pieces.next (lines_of pieces.report.now))

-- a whole piece is written, or all that is to come
abbrev pub IsFrontReady : Pieces → Type 0
IsFrontReady pieces = (4096 ≤ length pieces.ready.items) ⊎ (text_of_lines (drop pieces.next (lines_of pieces.report.now)) ≡ [])
