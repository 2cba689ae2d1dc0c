use Rattle.std.proofs.Common.{◌≡◌, drop}
use Rattle.lab_file.specs.Rows.{plug_rows}
use Rattle.lab_file.proofs.rows.plug_rows.Given as goal

abbrev pub invariant-loop-note : goal.invariant-loop-note
invariant-loop-note l = plug_rows l.notes.items l.name ≡ plug_rows (drop l.note-index l.notes.items) l.name
