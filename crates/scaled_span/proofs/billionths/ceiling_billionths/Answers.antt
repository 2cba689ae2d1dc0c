use Rattle.std.proofs.Common.{arith, ◌^◌, ◌≤◌}
use Rattle.std.proofs.lemmas.Int.{ints}
use Rattle.scaled_span.proofs.SpanLemmas.{capped_above}
use Rattle.scaled_span.proofs.billionths.ceiling_billionths.Goals as goal

pub returns-then-a-gtminus63 : goal.returns-then-a-gtminus63
returns-then-a-gtminus63 c = let n : 2 ^ 63 ≤ c.args.a.m = c.args.a.normal in capped_above c.args.a.m c.args.a.e n (omega (arith, ints))
