use Rattle.std.proofs.Common.{◌*◌, ◌≡◌, pos, ap, sym, subst, ◌∙◌, arith}
use Rattle.strategy_trees.specs.Contest.{Contest, contest, IsContest, rows}
use Rattle.best_turns.specs.Meeting.{met, contest_of}
use Rattle.best_turns.specs.Rounded.{upper_of, lower_of, AreFound}
use Rattle.best_turns.proofs.Answering.{upper_cells, lower_cells, upper_is, lower_is, are_narrow, uppers_pass, lowers_pass, exceeds, attains, is_within, is_point, is_exact}
use Rattle.best_turns.proofs.response.best.Goals as goal
use Rattle.best_turns.proofs.response.best.Goals.{After-value_of}

abbrev k : After-value_of → Contest
k c = contest c.args.own_noise.now c.args.grid.now c.args.noise.now c.args.game.now

same : (c : After-value_of) → contest_of c.in_ok-prepared.prepared ≡ k c
same c = ap met c.in_ok-prepared.ensures.meeting

ok : (c : After-value_of) → IsContest (k c)
ok c = subst IsContest (same c) c.in_ok-prepared.ensures.prepared.contest

found : (c : After-value_of) → AreFound (k c) (c.args.turns * rows (k c)) c.in_ok-found.found
found c = subst (λ m. AreFound m (c.args.turns * rows m) c.in_ok-found.found) (same c) c.in_ok-found.ensures

lo : (c : After-value_of) → c.value_of.result.lo ≡ pos (lower_of (k c) c.args.turns (k c).opponent.start)
lo c = subst (λ m. c.value_of.result.lo ≡ pos (lower_of m c.args.turns m.opponent.start)) (same c) c.value_of.ensures.lo

hi : (c : After-value_of) → c.value_of.result.hi ≡ pos (upper_of (k c) c.args.turns (k c).opponent.start)
hi c = subst (λ m. c.value_of.result.hi ≡ pos (upper_of m c.args.turns m.opponent.start)) (same c) c.value_of.ensures.hi

pub returns : goal.returns
returns c₀ =
    let c = (goal.at.returns c₀).After-value_of in
    let m = k c in
    let n = c.args.turns in
    let f = c.in_ok-found.found in
    let o = ok c in
    let h = found c in
    record {
      uppers = upper_cells m o n f h;
      lowers = lower_cells m o n f h;
      moves = h.plan.size;
      value = record {
        lo = lo c ∙ ap pos (sym (lower_is m o n f h n m.opponent.start (omega arith) o.automaton.started));
        hi = hi c ∙ ap pos (sym (upper_is m o n f h n m.opponent.start (omega arith) o.automaton.started));
      };
      no_tree_exceeds = exceeds m o n f h c.uppers_bound_trees.ensures c.value_of.result.hi (hi c);
      plan_attains = attains m o n f h c.lowers_are_attained.ensures c.value_of.result.lo (lo c);
      width = is_within m o n f h c.value_of.result (lo c) (hi c);
      point = λ sure. is_point m o n f h sure c.value_of.result.lo c.value_of.result.hi (lo c) (hi c);
      narrow = are_narrow m o n f h;
      uppers_pass = uppers_pass m o n f h;
      lowers_pass = lowers_pass m o n f h;
      exact = λ sure. is_exact m o n f h sure;
    }
