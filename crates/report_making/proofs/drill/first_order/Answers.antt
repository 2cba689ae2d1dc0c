use Rattle.report_making.proofs.DrillMade.{all_named, first_more, named_more}
use Rattle.std.proofs.Common.{arith}
use Rattle.report_making.proofs.Gathering.{one_longer}
use Rattle.report_making.proofs.drill.first_order.Goals as goal

pub loop-line-preserved : goal.loop-line-preserved
loop-line-preserved c =
    let below = c.requires.inside c.loop-line.line-index _ c.loop-line-test.true in
    record {
      order = first_more _ _ _ _ c.args.first.now c.loop-line.line-index _ _ c.loop-line-test.true c.index-names-line.is below c.in_ok-place.ensures.names c.loop-line.invariant.order;
      few = rw c.in_ok-place.ensures.names (omega (arith, c.loop-line.invariant.few, one_longer c.loop-line.order c.index-names-line.result));
      are_names = named_more _ c.args.first.now c.loop-line.line-index _ _ c.loop-line-test.true c.index-names-line.is below c.len-bytes.ensures.name c.loop-line.invariant.are_names;
    }

pub returns-clause-are_names : goal.returns-clause-are_names
returns-clause-are_names c = all_named c.args.names.now c.args.first.now c.loop-line.line-index c.loop-line-test.false c.loop-line.invariant.are_names
