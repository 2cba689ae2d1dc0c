-- An end to which n operations lead from whole points differs from the exact value by at most 2 n parts in 2^61 of it.
use Rattle.std.proofs.Common.{ℕ}
use Rattle.scaled_span.specs.declared.numbers.ScaledSpan.{ScaledSpan}
use Rattle.scaled_span.specs.Ratios.{Ratio}
use Rattle.scaled_span.specs.Operations.{Leads, OperationsAddUp, point, product, quotient, one_more, share}
use Rattle.scaled_span.proofs.SpanLemmas.{IsNear, mul_near, div_near, add_one_near, share_near, from_whole_near, near_is_around}

leads_near : (n : ℕ) (s : ScaledSpan) (x : Ratio) → Leads n s x → IsNear n s x
leads_near _ _ _ (point k s r) = from_whole_near k s r.low r.high
leads_near _ _ _ (product n m a b s x y p q r) = mul_near n m a b s x y r.low r.high (leads_near n a x p) (leads_near m b y q)
leads_near _ _ _ (quotient n m a b s x y p q r) = div_near n m a b s x y r.low r.high (leads_near n a x p) (leads_near m b y q)
leads_near _ _ _ (one_more n a s x p r) = add_one_near n a s x r.low r.high (leads_near n a x p)
leads_near _ _ _ (share n a s x p r) = share_near n a s x r.low r.high (leads_near n a x p)

pub operations_add_up_lem : OperationsAddUp
operations_add_up_lem = λ n s x few h. near_is_around n s x few (leads_near n s x h)
