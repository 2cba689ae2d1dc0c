use Rattle.report_rules.proofs.Answered.{Below, found, text, only, bad, bad_only}
use Rattle.report_rules.proofs.reading.read_report.Goals as goal

pub returns : goal.returns
returns c =
    let l : Below = record { lines = c.lines_are_exact.ensures; reading = c.reading_is_exact.ensures; refusal = c.refusal_is_exact.ensures } in
    let bytes = c.args.bytes.now in
    let result = c.read_lines.result in
    let reading = c.read_lines.ensures in
    record {
      found = found l bytes result reading;
      text = text l bytes result reading;
      only = only l bytes result reading;
      bad = bad l bytes result reading;
      bad_only = bad_only l bytes result reading;
    }
