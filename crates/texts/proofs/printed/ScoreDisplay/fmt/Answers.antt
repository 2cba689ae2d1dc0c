use Rattle.texts.proofs.Padded.{twelve_is}
use Rattle.texts.proofs.printed.ScoreDisplay.fmt.Goals as goal

pub returns-clause-writes : goal.returns-clause-writes
returns-clause-writes g c plain ok =
    rw (twelve_is _) at (rw c.laid_out.ensures at c.write.ensures.writes plain ok)
