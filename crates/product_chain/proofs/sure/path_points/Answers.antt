use Rattle.std.proofs.Common.{arith}
use Rattle.product_chain.proofs.Certain.{sure_step}
use Rattle.product_chain.proofs.sure.path_points.Goals as goal

pub loop-turn-preserved : goal.loop-turn-preserved
loop-turn-preserved c =
    let i = c.loop-turn.invariant in
    record {
      u_in = c.next_row-u.ensures.within;
      v_in = c.next_row-v.ensures.within;
      few = omega (arith, i.few, c.points_of-total.ensures.few);
      so_far = sure_step c.args.side.now c.args.turns c.loop-turn._turn c.loop-turn.u c.loop-turn.v c.loop-turn.total c.points_of-total.result c.next_row-u.result c.next_row-v.result _
          c.move_at-mine.result c.move_at-theirs.result c.loop-turn-test.true c.move_at-mine.ensures c.move_at-theirs.ensures c.points_of-total.ensures.value c.next_row-u.ensures.value c.next_row-v.ensures.value i.so_far;
    }
