use Rattle.texts.specs.Grammar.{pieces}
use Rattle.texts.proofs.GrammarLaws.{read_line, pieces_some}
use Rattle.texts.proofs.laws.lines_are_read_in_turn.Goals as goal

pub returns : goal.returns
returns heap c grammar line_of state k line rest = read_line grammar line_of state k line (pieces rest) (pieces_some rest)
