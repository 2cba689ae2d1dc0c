use Rattle.best_turns.proofs.Weighing.{shown_few}
use Rattle.best_turns.proofs.meeting.shown_by.Goals as goal

pub returns-clause-few : goal.returns-clause-few
returns-clause-few c =
    shown_few (record { n = c.noise.inside.n; e = c.noise.inside.e }) c.args.den c.args.weight c.noise.invariant c.requires.weighed c.requires.few
