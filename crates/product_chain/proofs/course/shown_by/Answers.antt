use Rattle.product_chain.proofs.Weighing.{shown_sum, shown_few}
use Rattle.product_chain.proofs.course.shown_by.Goals as goal

pub returns-clause-sum : goal.returns-clause-sum
returns-clause-sum c =
    rw (← c.noise.view_is) (shown_sum (record { n = c.noise.inside.n; e = c.noise.inside.e }) c.args.den c.args.weight c.noise.invariant c.requires.weighed)

pub returns-clause-few : goal.returns-clause-few
returns-clause-few c =
    shown_few (record { n = c.noise.inside.n; e = c.noise.inside.e }) c.args.den c.args.weight c.noise.invariant c.requires.weighed c.requires.few
