use Rattle.std.proofs.Common.{◌≡◌, ◌++◌, drop, take}
use Rattle.texts.specs.Cuts.{before, behind}
use Rattle.texts.proofs.cuts.cut.Given as goal

abbrev pub invariant-loop-i : goal.invariant-loop-i
invariant-loop-i l = record { front : before l.byte l.text ≡ take l.i l.text ++ before l.byte (drop l.i l.text); rest : behind l.byte l.text ≡ behind l.byte (drop l.i l.text) }
