-- A history's counts are as many as its plays, and are paid as it is.
use Rattle.std.proofs.Common.{[], ◌∷◌, arith}
use Rattle.history_model.specs.declared.moves.Move.{Move}
use Rattle.history_model.specs.declared.moves.Move.TheVariants.{C, D}
use Rattle.history_model.specs.Game.{Payoffs}
use Rattle.history_model.specs.History.{History}
use Rattle.history_model.specs.Tally.{counts, with_play, IsPaidAs, CountsArePaid}

-- one play more, of (mine, theirs)
paid_more : (game : Payoffs) (rest : History) → IsPaidAs game rest (counts rest) → (mine theirs : Move)
    → IsPaidAs game (record { mine = mine; theirs = theirs } ∷ rest) (with_play mine theirs (counts rest))
paid_more game rest h C C = record { turns = omega (arith, h.turns); left = omega (arith, h.left); right = omega (arith, h.right) }
paid_more game rest h C D = record { turns = omega (arith, h.turns); left = omega (arith, h.left); right = omega (arith, h.right) }
paid_more game rest h D C = record { turns = omega (arith, h.turns); left = omega (arith, h.left); right = omega (arith, h.right) }
paid_more game rest h D D = record { turns = omega (arith, h.turns); left = omega (arith, h.left); right = omega (arith, h.right) }

pub counts_are_paid_lem : CountsArePaid
counts_are_paid_lem game [] = record { turns = omega arith; left = omega arith; right = omega arith }
counts_are_paid_lem game (play ∷ rest) = paid_more game rest (counts_are_paid_lem game rest) play.mine play.theirs
