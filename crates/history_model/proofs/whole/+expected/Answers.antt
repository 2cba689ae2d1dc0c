use Rattle.std.proofs.Common.{rules, arith}
use Rattle.history_model.proofs.Bounds.{room_before, paid_fits, part_fits}
use Rattle.history_model.proofs.Wholes.{from_rows-by_play, from_rows-most}
use Rattle.history_model.proofs.whole.+expected.Goals as goal

pub expected_from-returns-clause-value : goal.expected_from-returns-clause-value
expected_from-returns-clause-value t c =
    from_rows-by_play c.args.seen.now c.args.n c.args.u c.args.v (omega arith)
    c.expected_with.ensures.value c.expected_with-2.ensures.value c.expected_with-3.ensures.value c.expected_with-4.ensures.value

pub expected_from-returns-clause-most : goal.expected_from-returns-clause-most
expected_from-returns-clause-most t c =
    rw (expected_from-returns-clause-value t c)
    (from_rows-most c.args.seen.now c.args.n c.args.u c.args.v c.expected_with.ensures.sides c.expected_with.ensures.game c.requires.u c.requires.v)

pub expected_with-expected_from-later-requires : goal.expected_with-expected_from-later-requires
expected_with-expected_from-later-requires t c =
    (search rules, (search rules, (search rules, room_before _ _ c.over_rest-over.ensures.some c.requires.room)))

pub expected_with-overflow_mul-paid : goal.expected_with-overflow_mul-paid
expected_with-overflow_mul-paid t c =
    rw c.over_rest-over.ensures.value (omega (arith, paid_fits _ _ c.over_rest-over.ensures.some c.requires.room _ _ c.pay.ensures.few c.expected_from-later.ensures.most))

pub expected_with-overflow_add-paid : goal.expected_with-overflow_add-paid
expected_with-overflow_add-paid t c =
    rw c.over_rest-over.ensures.value (omega (arith, paid_fits _ _ c.over_rest-over.ensures.some c.requires.room _ _ c.pay.ensures.few c.expected_from-later.ensures.most))

pub expected_with-overflow_mul-result : goal.expected_with-overflow_mul-result
expected_with-overflow_mul-result t c =
    rw c.over_rest-over.ensures.value (omega (arith, part_fits _ _ c.over_rest-over.ensures.some c.requires.room _ _ _ c.weight.ensures.within c.pay.ensures.few c.expected_from-later.ensures.most))

pub expected_with-returns-clause-few : goal.expected_with-returns-clause-few
expected_with-returns-clause-few t c =
    rw c.over_rest-over.ensures.value (part_fits _ _ c.over_rest-over.ensures.some c.requires.room _ _ _ c.weight.ensures.within c.pay.ensures.few c.expected_from-later.ensures.most)
