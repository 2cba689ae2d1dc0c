use Rattle.std.proofs.Common.{◌≡◌, drop}
use Rattle.lab_file.specs.Sure.{plug_is_sure}
use Rattle.lab_file.proofs.sure.plug_is_sure.Given as goal

abbrev pub invariant-loop-note : goal.invariant-loop-note
invariant-loop-note l = plug_is_sure l.notes.items l.name ≡ plug_is_sure (drop l.note-index l.notes.items) l.name
