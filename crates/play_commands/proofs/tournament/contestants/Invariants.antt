use Rattle.std.proofs.Common.{◌≡◌, length}
use Rattle.play_commands.specs.Contestants.{AreFirst}
use Rattle.play_commands.proofs.tournament.contestants.Given as goal

abbrev pub invariant-loop-place : goal.invariant-loop-place
invariant-loop-place l = record {
  first : AreFirst l.lab l.place l.contestants.items;
  last : l.place-end ≡ length l.lab.entries;
}
