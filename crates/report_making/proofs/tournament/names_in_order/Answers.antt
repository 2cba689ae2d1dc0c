use Rattle.report_making.proofs.MadeLaws.{few_more, named_more, order_more}
use Rattle.report_making.proofs.tournament.names_in_order.Goals as goal

pub loop-name-preserved : goal.loop-name-preserved
loop-name-preserved c = record {
  order = order_more _ _ _ _ _ _ c.loop-name-test.true c.name-item.is c.in_ok-place.ensures.names c.loop-name.invariant.order;
  few = few_more _ _ _ _ _ c.in_ok-place.ensures.names c.loop-name.invariant.few;
  are_names = named_more _ _ _ c.loop-name-test.true c.name-item.is c.len-bytes.ensures.name c.loop-name.invariant.are_names;
}
