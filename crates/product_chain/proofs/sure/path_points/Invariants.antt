use Rattle.std.proofs.Common.{◌≡◌, ◌+◌, ◌-◌, ◌*◌, ◌<◌, ◌≤◌, length}
use Rattle.product_chain.specs.Estimate.{sure_points}
use Rattle.product_chain.proofs.sure.path_points.Given as goal

abbrev pub invariant-loop-turn : goal.invariant-loop-turn
invariant-loop-turn l = record {
  u_in : l.u < length l.own.rows;
  v_in : l.v < length l.other.rows;
  few : l.total ≤ l._turn * 1000000;
  so_far : l.total + sure_points l.side (l.turns - l._turn) l.u l.v ≡ sure_points l.side l.turns l.side.own.now.start l.side.other.now.start;
}
