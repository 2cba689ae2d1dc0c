use Rattle.std.proofs.Common.{◌≡◌, ◌+◌, ◌^◌, ◌<◌, length, drop}
use Rattle.texts.specs.Grammar.{pieces}
use Rattle.checkpoint.specs.Checkpoints.{matches_at}
use Rattle.checkpoint.proofs.LineLaws.{behind_rows}
use Rattle.checkpoint.proofs.reading.read_matches.Given as goal

abbrev pub invariant-loop-pair : goal.invariant-loop-pair
invariant-loop-pair l = record {
  reads : behind_rows l.items.items (matches_at l.game l.offset (drop l.pair-index l.expected) l.number l.at (pieces l.rest)) ≡ matches_at l.game l.offset l.expected 0 l.first (pieces l.bytes);
  count : l.number ≡ l.pair-index;
  room : l.at + length l.rest < 2 ^ 32;
}
