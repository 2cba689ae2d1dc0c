use Rattle.std.proofs.Common.{◌≤◌, take}
use Rattle.lab_ports.specs.Holding.{Grew}
use Rattle.refusals.specs.Piece.{joined}
use Rattle.lab_ports.proofs.piece.send_pieces.Given as goal

abbrev pub invariant-loop-piece : goal.invariant-loop-piece
invariant-loop-piece g l = record {
  grew : Grew (g.S.Sink.taken l.initial.sink) (g.S.Sink.taken l.sink) (joined (take l.piece-index l.pieces));
  later : g.S.Sink.faults l.initial.sink ≤ g.S.Sink.faults l.sink;
}
