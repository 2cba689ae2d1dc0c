use Rattle.std.proofs.Common.{arith, ℕ, ◌≡◌, ◌+◌, ◌-◌, ◌*◌, ◌<◌}
use Rattle.moran_chain.specs.Ranges.{first_worth, second_worth}
use Rattle.moran_chain.proofs.ChainLemmas.{ratio_holds, all_fit, tight_as}
use Rattle.moran_chain.proofs.chain.ratio.Goals as goal

distributed : (x y u j k : ℕ) → x * u * j + y * u * k ≡ (x * j + y * k) * u
distributed x y u j k = omega arith

pub returns-clause-holds : goal.returns-clause-holds
returns-clause-holds c = λ v h.
    let m = c.args.m in
    let j = c.args.j in
    let t = c.args.t.now in
    let u = v.unit in
    let below : j < m = c.requires.below in
    let fit = all_fit t v m h in
    ratio_holds c.both-g.result c.both-f.result c.div.result (second_worth v m j) (first_worth v m j)
    (v.c * u * j + v.d * u * (m - j - 1)) (v.a * u * (j - 1) + v.b * u * (m - j)) v.den u h.some (fit.first j c.requires.some below) h.unit
    (distributed v.c v.d u j (m - j - 1)) (distributed v.a v.b u (j - 1) (m - j))
    c.div.ensures.contains
    (c.both-g.ensures.holds (v.c * u) (v.d * u) v.den h.c.low h.c.high h.d.low h.d.high)
    (c.both-f.ensures.holds (v.a * u) (v.b * u) v.den h.a.low h.a.high h.b.low h.b.high)

pub returns-clause-tight : goal.returns-clause-tight
returns-clause-tight c = λ n h.
    tight_as (n + 2 + (n + 2) + 2) (2 * n + 6) c.div.result (omega arith)
    (c.div.ensures.tight (n + 2) (n + 2) (c.both-g.ensures.tight n h.c.known h.d.known) (c.both-f.ensures.tight n h.a.known h.b.known))

pub returns-clause-exponents : goal.returns-clause-exponents
returns-clause-exponents c = c.div.ensures.exponents 70 70 c.both-g.ensures.exponents c.both-f.ensures.exponents
