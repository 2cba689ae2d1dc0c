use Rattle.std.proofs.Common.{◌≡◌, take, true}
use Rattle.texts.specs.Cuts.{lacks}
use Rattle.texts.proofs.cuts.first_line.Given as goal

abbrev pub invariant-loop-i : goal.invariant-loop-i
invariant-loop-i l = lacks 10 (take l.i l.text) ≡ true
