-- How often each play came.
use Rattle.std.specs.Prelude.{ℕ, ◌≡◌, ◌+◌, ◌*◌, [], ◌∷◌, length}
use Rattle.history_model.specs.declared.moves.Move.{Move}
use Rattle.history_model.specs.declared.moves.Move.TheVariants.{C, D}
use Rattle.history_model.specs.declared.tally.Tally.{Tally}
use Rattle.history_model.specs.Game.{Payoffs}
use Rattle.history_model.specs.History.{History, turned, points}

abbrev pub no_plays : Tally
no_plays = record { cc = 0; cd = 0; dc = 0; dd = 0 }

-- the tally with one play more
abbrev pub with_play : Move → Move → Tally → Tally
with_play C C k = record k { cc = k.cc + 1 }
with_play C D k = record k { cd = k.cd + 1 }
with_play D C k = record k { dc = k.dc + 1 }
with_play D D k = record k { dd = k.dd + 1 }

-- how often each play came in a history
abbrev pub counts : History → Tally
counts [] = no_plays
counts (play ∷ rest) = with_play play.mine play.theirs (counts rest)

-- the plays in all
abbrev pub total : Tally → ℕ
total k = k.cc + k.cd + k.dc + k.dd

-- what the left and the right player are paid for these plays
abbrev pub left_points : Payoffs → Tally → ℕ
left_points game k = game.r * k.cc + game.s * k.cd + game.t * k.dc + game.p * k.dd

abbrev pub right_points : Payoffs → Tally → ℕ
right_points game k = game.r * k.cc + game.t * k.cd + game.s * k.dc + game.p * k.dd

-- a tally is as many plays as its history, and is paid as the history is, on either side
pub record IsPaidAs (game : Payoffs) (history : History) (tally : Tally) : Type 0 where
  pub turns : total tally ≡ length history
  pub left : left_points game tally ≡ points game history
  pub right : right_points game tally ≡ points game (turned history)

-- the law: the counts of a history are
abbrev pub CountsArePaid : Type 0
CountsArePaid = (game : Payoffs) (history : History) → IsPaidAs game history (counts history)
