use Rattle.fixed_span.proofs.TextLaws.{span_found, span_none}
use Rattle.fixed_span.proofs.reading.read_span.Goals as goal

pub returns-clause-found : goal.returns-clause-found
returns-clause-found c = span_found c.args.decimals c.args.text.now c.span_of.result c.requires c.span_of.ensures

pub returns-clause-none : goal.returns-clause-none
returns-clause-none c = span_none c.args.decimals c.args.text.now c.span_of.result c.requires c.span_of.ensures
