-- What a strategy meets: an opponent, the flips of both sides' moves, and the payoffs; and what a move is worth there.
use Rattle.std.specs.Prelude.{ℕ, ◌+◌, ◌-◌, ◌*◌, ◌≡◌, length}
use Rattle.history_model.specs.declared.moves.Move.{Move}
use Rattle.history_model.specs.declared.moves.Move.TheVariants.{C, D}
use Rattle.history_model.specs.Game.{Payoffs, pay}
use Rattle.history_model.specs.Noise.{FlipRate, IsFlipRate}
use Rattle.history_model.specs.Automaton.{Automaton, IsAutomaton, IsSure, weight_at, next_row}
use Rattle.history_model.specs.History.{turned_play}
use Rattle.history_model.specs.Expectation.{shown, over_plays}

-- the strategy's own moves are flipped by own_noise, those of the opponent by noise
pub record Contest : Type 0 where
  pub own_noise : FlipRate
  pub opponent : Automaton
  pub noise : FlipRate
  pub game : Payoffs

abbrev pub contest : FlipRate → Automaton → FlipRate → Payoffs → Contest
contest own_noise opponent noise game = record { own_noise = own_noise; opponent = opponent; noise = noise; game = game }

pub record IsContest (c : Contest) : Type 0 where
  pub own_rate : IsFlipRate c.own_noise
  pub automaton : IsAutomaton c.opponent
  pub rate : IsFlipRate c.noise

-- the opponent draws no lots, and no move is flipped
pub record IsSureContest (c : Contest) : Type 0 where
  pub own_still : c.own_noise.n ≡ 0
  pub sure : IsSure c.opponent
  pub still : c.noise.n ≡ 0

abbrev pub rows : Contest → ℕ
rows c = length c.opponent.rows

-- the denominator of one play in which the own move is intended for sure
abbrev pub one_play : Contest → ℕ
one_play c = c.own_noise.e * (c.opponent.den * c.noise.e)

-- the weight over e with which an intended move, the first, is seen as the second
abbrev pub seen_as : FlipRate → Move → Move → ℕ
seen_as noise C C = noise.e - noise.n
seen_as noise C D = noise.n
seen_as noise D C = noise.n
seen_as noise D D = noise.e - noise.n

-- what an own move at a row is worth, times the denominator of one play: its payoff, of which each point is so many units, and what
-- the next row is worth
abbrev pub worth : Contest → ℕ → (ℕ → ℕ) → ℕ → Move → ℕ
worth c units next row move =
    over_plays (λ play. seen_as c.own_noise move play.mine * shown c.noise c.opponent.den (weight_at c.opponent row) play.theirs
    * (pay c.game play.mine play.theirs * units + next (next_row c.opponent row (turned_play play))))
