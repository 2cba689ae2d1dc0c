use Rattle.std.proofs.Common.{ℕ, ◌≤◌, length}
use Rattle.lab_report.specs.Pieces.{to_come}
use Rattle.report_rules.specs.Text.{report_text}
use Rattle.axlab_core.proofs.SentUpTo.{IsSentUpTo}
use Rattle.axlab_core.proofs.sending.send_report.Given as goal

abbrev pub invariant-loop-piece : goal.invariant-loop-piece
invariant-loop-piece g l = record {
  sent : (n : ℕ) × IsSentUpTo n (g.O.Sink.taken l.fn.out) (g.O.Sink.taken l.out) (report_text l.fn.report) (to_come l.pieces);
  later : g.O.Sink.faults l.fn.out ≤ g.O.Sink.faults l.out;
}

abbrev pub decreases-loop-piece : goal.decreases-loop-piece
decreases-loop-piece g l = length (to_come l.pieces)
