use Rattle.std.proofs.Common.{◌+◌, ◌-◌, ◌*◌, ◌^◌, ◌≡◌, ◌≤◌, pos, slice_index_or, ap, ◌∙◌, arith}
use Rattle.std.proofs.lemmas.Int.{ints}
use Rattle.history_model.specs.Automaton.{Automaton}
use Rattle.strategy_trees.specs.Contest.{rows}
use Rattle.best_turns.specs.Meeting.{contest_of}
use Rattle.best_turns.specs.Rounded.{lower_of, upper_of}
use Rattle.best_turns.proofs.Rounding.{ordered}
use Rattle.best_turns.proofs.Tables.{upper-few, lower-few}
use Rattle.best_turns.proofs.Answering.{last_is}
use Rattle.best_turns.proofs.response.value_of.Goals as goal
use Rattle.best_turns.proofs.response.value_of.Goals.{After-index-2}

place : (c : After-index-2) → (c.args.turns - 1) * c.len.result + c.opponent.inside.start ≡ (c.args.turns - 1) * rows (contest_of c.args.prepared.now) + (contest_of c.args.prepared.now).opponent.start
place c =
    let k = contest_of c.args.prepared.now in
    let size : c.len.result ≡ rows k = omega (arith, c.len.ensures, c.requires.prepared.stances.size) in
    let start : c.opponent.inside.start ≡ k.opponent.start = ap (λ (a : Automaton). a.start) c.opponent.view_is in
    ap (λ n. (c.args.turns - 1) * n + c.opponent.inside.start) size ∙ ap (λ n. (c.args.turns - 1) * rows k + n) start

low : (c : After-index-2) → c.index.result.now ≡ pos (lower_of (contest_of c.args.prepared.now) c.args.turns (contest_of c.args.prepared.now).opponent.start)
low c =
    let k = contest_of c.args.prepared.now in
    let x = c.index.result.now in
    last_is (lower_of k) (rows k) c.args.turns k.opponent.start c.args.found.now.lowers.items x c.requires.found.low c.requires.some c.requires.prepared.contest.automaton.started
    (c.index.ensures ∙ ap (λ i. slice_index_or c.args.found.now.lowers.items i x) (place c))

high : (c : After-index-2) → c.index-2.result.now ≡ pos (upper_of (contest_of c.args.prepared.now) c.args.turns (contest_of c.args.prepared.now).opponent.start)
high c =
    let k = contest_of c.args.prepared.now in
    let x = c.index-2.result.now in
    last_is (upper_of k) (rows k) c.args.turns k.opponent.start c.args.found.now.uppers.items x c.requires.found.high c.requires.some c.requires.prepared.contest.automaton.started
    (c.index-2.ensures ∙ ap (λ i. slice_index_or c.args.found.now.uppers.items i x) (place c))

low_few : (c : After-index-2) → lower_of (contest_of c.args.prepared.now) c.args.turns (contest_of c.args.prepared.now).opponent.start ≤ 10 ^ 22
low_few c =
    let k = contest_of c.args.prepared.now in
    lower-few k c.requires.prepared.contest c.args.turns k.opponent.start c.requires.prepared.game c.requires.few c.requires.prepared.contest.automaton.started

high_few : (c : After-index-2) → upper_of (contest_of c.args.prepared.now) c.args.turns (contest_of c.args.prepared.now).opponent.start ≤ 10 ^ 22
high_few c =
    let k = contest_of c.args.prepared.now in
    upper-few k c.requires.prepared.contest c.args.turns k.opponent.start c.requires.prepared.game c.requires.few c.requires.prepared.contest.automaton.started

pub returns-clause-lo : goal.returns-clause-lo
returns-clause-lo c = let at = (goal.at.returns-clause-lo c).After-index-2 in let few = low_few at in rw (low at) (omega (arith, ints, few))

pub returns-clause-hi : goal.returns-clause-hi
returns-clause-hi c = let at = (goal.at.returns-clause-hi c).After-index-2 in let few = high_few at in rw (high at) (omega (arith, ints, few))

pub invariant_of-result : goal.invariant_of-result
invariant_of-result c =
    let at = (goal.at.invariant_of-result c).After-index-2 in
    let k = contest_of c.args.prepared.now in
    let few = low_few at in
    let few' = high_few at in
    let l = ordered k c.requires.prepared.contest c.args.turns k.opponent.start c.requires.prepared.contest.automaton.started in
    rw (low at, high at) (omega (arith, ints, few, few', l))
