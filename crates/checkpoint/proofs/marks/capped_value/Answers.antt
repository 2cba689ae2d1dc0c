use Rattle.std.proofs.Common.{sym, ◌∙◌, arith}
use Rattle.checkpoint.proofs.MarkLaws.{capped_end, capped_went}
use Rattle.checkpoint.proofs.marks.capped_value.Goals as goal

pub loop-byte-preserved : goal.loop-byte-preserved
loop-byte-preserved c = record {
  value =
      capped_went c.args.text.now c.loop-byte.byte-index c.loop-byte.n c.with_digit-n.result c.loop-byte-test.true (sym c.is_digit.ensures ∙ c.if-not-is_digit.false) c.with_digit-n.ensures
      ∙ c.loop-byte.invariant.value;
  small = omega arith;
}

pub returns : goal.returns
returns c = capped_end c.args.text.now c.loop-byte.byte-index c.loop-byte.n c.loop-byte-test.false c.loop-byte.invariant.small ∙ c.loop-byte.invariant.value
