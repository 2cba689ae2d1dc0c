use Rattle.std.proofs.Common.{sym, subst, slice_index, ◌∙◌}
use Rattle.best_turns.specs.Meeting.{contest_of, IsStance}
use Rattle.best_turns.proofs.Worths.{worth_of_c, worth_of_d}
use Rattle.best_turns.proofs.worth.worths.Goals as goal
use Rattle.best_turns.proofs.worth.worths.Goals.{After-intended-2}

stance : (c : After-intended-2) → IsStance (contest_of c.args.prepared.now) c.args.row c.index-at.result.now
stance c =
    subst (IsStance (contest_of c.args.prepared.now) c.args.row) (sym c.index-at.ensures) (c.requires.prepared.stances.each c.args.row c.index-at.result.now c.requires.row)

pub returns-clause-c : goal.returns-clause-c
returns-clause-c c =
    c.intended.ensures.value
    ∙ worth_of_c (contest_of c.args.prepared.now) c.args.row (slice_index c.args.layer.now) c.index-at.result.now c.args.prepared.now.terms (stance c) c.requires.prepared.terms
    c.drawn-if_c.result c.drawn-if_d.result c.drawn-if_c.ensures.value c.drawn-if_d.ensures.value

pub returns-clause-d : goal.returns-clause-d
returns-clause-d c =
    c.intended-2.ensures.value
    ∙ worth_of_d (contest_of c.args.prepared.now) c.args.row (slice_index c.args.layer.now) c.index-at.result.now c.args.prepared.now.terms (stance c) c.requires.prepared.terms
    c.drawn-if_c.result c.drawn-if_d.result c.drawn-if_c.ensures.value c.drawn-if_d.ensures.value
