use Rattle.std.proofs.Common.{◌≡◌, length}
use Rattle.player_core.specs.Sheet.{AreWithin}
use Rattle.player_rows.proofs.tables.numbers.Given as goal

abbrev pub invariant-loop-place : goal.invariant-loop-place
invariant-loop-place l = record {
  count : length l.numbers.items ≡ l.place;
  within : AreWithin 1000 l.numbers.items;
}
