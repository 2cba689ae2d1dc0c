use Rattle.std.proofs.Common.{◌≡◌, ◌+◌, ◌≤◌, length}
use Rattle.texts.specs.Grammar.{pieces}
use Rattle.checkpoint.specs.Checkpoints.{behind_head}
use Rattle.checkpoint.proofs.matches.behind_head.Given as goal

abbrev pub invariant-loop-own : goal.invariant-loop-own
invariant-loop-own l = record {
  reads : behind_head (pieces l.owed) l.at (pieces l.rest) ≡ behind_head (pieces l.head) 1 (pieces l.bytes);
  room : l.at + length l.rest ≤ length l.bytes + 1;
}

abbrev pub decreases-loop-own : goal.decreases-loop-own
decreases-loop-own l = length l.owed
