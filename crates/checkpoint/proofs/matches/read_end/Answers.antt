use Rattle.std.proofs.Common.{sym, ◌∙◌}
use Rattle.texts.specs.Grammar.{pieces}
use Rattle.checkpoint.proofs.LineLaws.{end_past}
use Rattle.checkpoint.proofs.matches.read_end.Goals as goal

pub returns-then-not-is_empty-clause-fault : goal.returns-then-not-is_empty-clause-fault
returns-then-not-is_empty-clause-fault c =
    end_past c.args.at (pieces c.args.bytes.now) c.in_ok-line.line.now c.in_ok-line.rest.now c.in_ok-line.ensures.line (sym c.is.ensures ∙ c.if-not-is.false) (sym c.is_empty.ensures ∙ c.if-not-is_empty.true)
