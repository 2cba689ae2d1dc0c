use Rattle.texts.proofs.NumberLaws.{numbers_are_exact_lem}
use Rattle.texts.proofs.laws.numbers_are_exact.Goals as goal

pub returns : goal.returns
returns c = numbers_are_exact_lem
