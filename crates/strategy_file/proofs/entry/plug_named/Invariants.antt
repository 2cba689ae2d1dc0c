use Rattle.std.proofs.Common.{◌≡◌, drop}
use Rattle.strategy_file.specs.SheetOf.{plug_named}
use Rattle.strategy_file.proofs.entry.plug_named.Given as goal

abbrev pub invariant-loop-note : goal.invariant-loop-note
invariant-loop-note l = plug_named l.notes.items l.name ≡ plug_named (drop l.note-index l.notes.items) l.name
