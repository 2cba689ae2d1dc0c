use Rattle.std.proofs.Common.{◌+◌, ◌*◌, ◌≡◌, length, ap, sym, subst, ◌∙◌, arith}
use Rattle.strategy_trees.specs.Contest.{rows}
use Rattle.best_turns.specs.Meeting.{contest_of}
use Rattle.best_turns.specs.Rounded.{HasLayer, AreFound}
use Rattle.best_turns.proofs.Tables.{none_found}
use Rattle.best_turns.proofs.induction.find.Goals as goal

pub loop-t-init : goal.loop-t-init
loop-t-init c =
    let k = contest_of c.args.prepared.now in
    record {
      inside = omega arith;
      below = c.in_ok-below.ensures;
      high = c.in_ok-above.ensures.high.size;
      low = c.in_ok-above.ensures.low.size;
      found = none_found k (0 * rows k) _ (omega arith) c.in_ok-with_capacity.ensures.items c.in_ok-with_capacity-2.ensures.items c.in_ok-with_capacity-3.ensures.items;
    }

pub loop-t-preserved : goal.loop-t-preserved
loop-t-preserved c =
    let k = contest_of c.args.prepared.now in
    record {
      inside = omega arith;
      below = subst (HasLayer k (c.loop-t.t + 1) (rows k)) (sym c.swap.ensures.x_after) c.in_ok-add_turn.ensures.above;
      high = ap (λ layer. length layer.uppers.items) c.swap.ensures.y_after ∙ c.loop-t.invariant.below.high.size;
      low = ap (λ layer. length layer.lowers.items) c.swap.ensures.y_after ∙ c.loop-t.invariant.below.low.size;
      found = c.in_ok-add_turn.ensures.found;
    }

pub returns : goal.returns
returns c =
    let k = contest_of c.args.prepared.now in
    let end : c.loop-t.t ≡ c.args.turns = omega (arith, c.loop-t.invariant.inside, c.loop-t-test.false) in
    subst (λ t. AreFound k (t * rows k) c.loop-t.found) end c.loop-t.invariant.found
