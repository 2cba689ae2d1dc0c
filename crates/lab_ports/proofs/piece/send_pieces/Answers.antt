use Rattle.lab_ports.proofs.Joined.{joined_more, joined_part}
use Rattle.std.proofs.Common.{rules}
use Rattle.std.proofs.lemmas.Result.{err_from_is_err_and}
use Rattle.lab_ports.proofs.piece.send_pieces.Goals as goal

pub returns-in_err-send_piece-clause-part : goal.returns-in_err-send_piece-clause-part
returns-in_err-send_piece-clause-part g c =
    let p = err_from_is_err_and c.from_residual.result c.from_residual.ensures.1 in
    rw p.1 (joined_part _ _ _ c.args.pieces.now c.loop-piece.piece-index _ c.loop-piece-test.true c.loop-piece.invariant.grew c.in_err-send_piece.ensures.part)

pub loop-piece-preserved : goal.loop-piece-preserved
loop-piece-preserved g c = record {
  grew = joined_more _ _ _ c.args.pieces.now c.loop-piece.piece-index _ c.loop-piece-test.true c.loop-piece.invariant.grew c.in_ok-send_piece.ensures.sent;
  later = search rules;
}
