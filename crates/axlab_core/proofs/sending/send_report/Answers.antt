use Rattle.std.proofs.Common.{◌+◌, ◌∙◌, arith}
use Rattle.std.proofs.lemmas.Result.{err_from_is_err_and}
use Rattle.axlab_core.proofs.SentUpTo.{all_sent, less_to_come, part_sent, piece_sent, rose_since}
use Rattle.axlab_core.proofs.sending.send_report.Goals as goal

pub loop-piece-smaller : goal.loop-piece-smaller
loop-piece-smaller g c = less_to_come c.in_ok-fill.field-0 _ _ c.if-branch.true c.in_ok-fill.ensures.none c.in_ok-fill.ensures.rest

pub loop-piece-preserved : goal.loop-piece-preserved
loop-piece-preserved g c = record {
  sent = (c.loop-piece.invariant.sent.0 + 4096, piece_sent c.growth_adds_up.ensures c.loop-piece.invariant.sent.0 _ _ _ _ _ _ c.as_slice.result.now c.loop-piece.invariant.sent.1 (c.as_slice.ensures.value ∙ c.in_ok-fill.ensures.front) c.in_ok-fill.ensures.rest c.in_ok-send.ensures.sent);
  later = omega (arith, c.loop-piece.invariant.later, c.in_ok-send.ensures.later);
}

pub returns-in_err-send-clause-stopped : goal.returns-in_err-send-clause-stopped
returns-in_err-send-clause-stopped g c =
    let p = err_from_is_err_and c.from_residual-in_err-send.result c.from_residual-in_err-send.ensures.1 in
    rw p.1 (rw p.2 (
      part_sent c.growth_adds_up.ensures c.loop-piece.invariant.sent.0 _ _ _ _ _ c.as_slice.result.now c.loop-piece.invariant.sent.1 (c.as_slice.ensures.value ∙ c.in_ok-fill.ensures.front) c.in_err-send.ensures.part,
      rose_since _ _ _ c.loop-piece.invariant.later c.in_err-send.ensures.failed,
    ))

pub returns-clause-sent : goal.returns-clause-sent
returns-clause-sent g c = all_sent c.loop-piece.invariant.sent.0 _ _ _ _ c.loop-piece.invariant.sent.1 (c.in_ok-fill.ensures.none.0 c.if-branch.false)
