use Rattle.std.proofs.Common.{◌≡◌, drop}
use Rattle.texts.specs.Numbers.{value_from}
use Rattle.texts.proofs.numbers.value_of.Given as goal

abbrev pub invariant-loop-b : goal.invariant-loop-b
invariant-loop-b l = value_from l.n (drop l.b-index l.text) ≡ value_from 0 l.text
