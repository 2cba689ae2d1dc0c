-- A match as one of its players sees it, and what that player expects.
use Rattle.std.specs.Prelude.{ℕ, ◌+◌, ◌*◌, ◌^◌, ◌<◌}
use Rattle.history_model.specs.declared.moves.Move.{Move}
use Rattle.history_model.specs.declared.whole.Match.{Match}
use Rattle.history_model.specs.Game.{pay}
use Rattle.history_model.specs.Noise.{IsFlipRate}
use Rattle.history_model.specs.Automaton.{IsAutomaton, weight_at, row_at, next_of}
use Rattle.history_model.specs.Expectation.{player, quotient, shown, expected_by_rows}

-- the automata and the chances of flips are valid
pub record AreSides (m : Match) : Type 0 where
  pub own : IsAutomaton m.a.now
  pub own_rate : IsFlipRate m.a_noise.now
  pub other : IsAutomaton m.b.now
  pub other_rate : IsFlipRate m.b_noise.now

-- the denominator of one play
abbrev pub one_play : Match → ℕ
one_play m = quotient (player m.a.now) m.a_noise.now (player m.b.now) m.b_noise.now

-- the power of it and the greatest sum over n plays are far from 2 ^ 128
abbrev pub SumsFit : Match → ℕ → Type 0
SumsFit m n = one_play m ^ n * (n + 1) * 1000000 < 2 ^ 126

-- what a expects in n turns from a pair of rows
abbrev pub from_rows : Match → ℕ → ℕ → ℕ → ℕ
from_rows m n u v = expected_by_rows m.a.now m.a_noise.now m.b.now m.b_noise.now m.game.now n u v

-- the part of it that begins with a play, which n turns follow
abbrev pub from_play : Match → ℕ → ℕ → ℕ → Move → Move → ℕ
from_play m n u v mine theirs =
    shown m.a_noise.now m.a.now.den (weight_at m.a.now u) mine * shown m.b_noise.now m.b.now.den (weight_at m.b.now v) theirs
    * (pay m.game.now mine theirs * one_play m ^ n + from_rows m n (next_of (row_at m.a.now u) mine theirs) (next_of (row_at m.b.now v) theirs mine))
