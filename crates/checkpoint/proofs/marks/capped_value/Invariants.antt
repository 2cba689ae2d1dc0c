use Rattle.std.proofs.Common.{◌≡◌, ◌≤◌, drop}
use Rattle.checkpoint.specs.Marks.{capped_from}
use Rattle.checkpoint.proofs.marks.capped_value.Given as goal

abbrev pub invariant-loop-byte : goal.invariant-loop-byte
invariant-loop-byte l = record { value : capped_from l.n (drop l.byte-index l.text) ≡ capped_from 0 l.text; small : l.n ≤ 4294967295 }
