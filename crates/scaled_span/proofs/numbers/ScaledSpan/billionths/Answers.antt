use Rattle.scaled_span.specs.Values.{value}
use Rattle.scaled_span.proofs.SpanLemmas.{value_den, billionths_ordered}
use Rattle.scaled_span.proofs.numbers.ScaledSpan.billionths.Goals as goal

pub returns-clause-ordered : goal.returns-clause-ordered
returns-clause-ordered c =
    let s = c.args.self in
    billionths_ordered c.floor_billionths.result c.ceiling_billionths.result (value s.lo) (value s.hi) (value_den s.lo) (value_den s.hi) s.ordered c.requires.chance c.floor_billionths.ensures c.ceiling_billionths.ensures
