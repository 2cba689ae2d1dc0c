use Rattle.report_rules.proofs.Answered.{one_text}
use Rattle.report_rules.proofs.reading.one_report_a_text.Goals as goal

pub returns : goal.returns
returns c = one_text (record { lines = c.lines_are_exact.ensures; reading = c.reading_is_exact.ensures; refusal = c.refusal_is_exact.ensures })
