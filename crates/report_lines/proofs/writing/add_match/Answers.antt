use Rattle.report_lines.proofs.InRange.{match_parts}
use Rattle.report_lines.proofs.writing.add_match.Goals as goal

pub add_counts-requires-clause-counts : goal.add_counts-requires-clause-counts
add_counts-requires-clause-counts c = (match_parts c.args.found.now c.requires).counts

pub add_counts-requires-clause-turns : goal.add_counts-requires-clause-turns
add_counts-requires-clause-turns c = (match_parts c.args.found.now c.requires).turns
