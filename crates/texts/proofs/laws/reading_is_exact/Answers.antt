use Rattle.texts.proofs.GrammarLaws.{read_takes, read_again}
use Rattle.texts.proofs.laws.reading_is_exact.Goals as goal

pub returns : goal.returns
returns heap c grammar line_of exact start end bytes =
    (read_takes grammar line_of exact start end bytes, read_again grammar line_of exact start end bytes)
