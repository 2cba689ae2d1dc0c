use Rattle.report_rules.proofs.Ranges.{match_parts}
use Rattle.report_rules.proofs.match_rules.is_scored.Goals as goal

pub pays-requires-clause-turns : goal.pays-requires-clause-turns
pays-requires-clause-turns c = (match_parts c.args.found.now c.requires.line).few_turns

pub pays-requires-clause-counts : goal.pays-requires-clause-counts
pays-requires-clause-counts c = (match_parts c.args.found.now c.requires.line).counts
