use Rattle.std.proofs.Common.{ap, ◌∙◌}
use Rattle.texts.specs.Grammar.{pieces}
use Rattle.texts.proofs.GrammarLaws.{pieces_some}
use Rattle.checkpoint.specs.Checkpoints.{line_at}
use Rattle.checkpoint.proofs.LineLaws.{line_front}
use Rattle.checkpoint.proofs.matches.line_at.Goals as goal

pub returns-in-Some-clause-line : goal.returns-in-Some-clause-line
returns-in-Some-clause-line c =
    ap (line_at c.args.at) c.in-Some.ensures.line ∙ line_front c.args.at c.in-Some.line.now (pieces c.in-Some.rest.now) (pieces_some c.in-Some.rest.now)
