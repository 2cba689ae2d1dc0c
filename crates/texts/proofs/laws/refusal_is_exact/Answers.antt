use Rattle.texts.proofs.GrammarLaws.{read_bad, bad_again}
use Rattle.texts.proofs.laws.refusal_is_exact.Goals as goal

pub returns : goal.returns
returns heap c grammar line_of exact start bytes k =
    (read_bad grammar line_of exact start bytes k, bad_again grammar line_of exact start bytes k)
