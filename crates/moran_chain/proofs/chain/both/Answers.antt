use Rattle.moran_chain.proofs.ChainLemmas.{both_holds, both_tight}
use Rattle.moran_chain.proofs.chain.both.Goals as goal

pub returns-clause-holds : goal.returns-clause-holds
returns-clause-holds c = λ p q den a b d e.
    both_holds c.from_whole.result c.mixed.result c.mixed-2.result c.args.x.lo c.args.x.hi c.args.y.lo c.args.y.hi p q den c.args.j c.args.k c.mixed.ensures c.mixed-2.ensures c.from_whole.ensures.contains a b d e

pub returns-clause-tight : goal.returns-clause-tight
returns-clause-tight c = λ n a b.
    c.from_whole.ensures.tight n (both_tight n c.mixed.result c.mixed-2.result c.args.x.lo c.args.x.hi c.args.y.lo c.args.y.hi c.args.j c.args.k c.mixed.ensures c.mixed-2.ensures a b)
