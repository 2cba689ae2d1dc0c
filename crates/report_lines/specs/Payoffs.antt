-- The payoffs that a line shows, and those of the raised game, in which none is below 0.
use Rattle.std.specs.Prelude.{ℕ, ◌≡◌, ◌&&◌, Bool, nat_le, ◌+◌, ◌<◌, ◌≤◌, ℤ, pos, negsuc, ◌+ℤ◌, ◌-ℤ◌, max}
use Rattle.history_model.specs.Game.{Payoffs, magnitude, least}
use Rattle.report_lines.specs.declared.line.ShownGame.{ShownGame}

-- how far a payoff lies below 0
abbrev pub below : ℤ → ℕ
below (pos n) = 0
below (negsuc n) = n + 1

-- the offset: how far the least payoff lies below 0
abbrev pub offset_of : ShownGame → ℕ
offset_of x = max (max (max (below x.r) (below x.s)) (below x.t)) (below x.p)

-- a payoff plus the offset, and so all four
abbrev pub raised : ℕ → ℤ → ℕ
raised offset payoff = magnitude (payoff +ℤ pos offset)

abbrev pub raised_game : ShownGame → Payoffs
raised_game x = record { r = raised (offset_of x) x.r; s = raised (offset_of x) x.s; t = raised (offset_of x) x.t; p = raised (offset_of x) x.p }

-- all four payoffs of the raised game are at most 1,000,000: the greatest is no more than that above the least, or above 0
abbrev pub is_small : ℕ → Bool
is_small payoff = nat_le payoff 1000000

abbrev pub are_near : ShownGame → Bool
are_near x = (is_small (raised_game x).r && is_small (raised_game x).s) && (is_small (raised_game x).t && is_small (raised_game x).p)

-- a payoff less the offset, and so all four
abbrev pub less : ℕ → ℕ → ℤ
less offset payoff = pos payoff -ℤ pos offset

abbrev pub shown_game : ℕ → Payoffs → ShownGame
shown_game offset game = record { r = less offset game.r; s = less offset game.s; t = less offset game.t; p = less offset game.p }

-- an offset is at most 1,000,000, and where there is one, the least payoff with it is 0
pub record IsOffset (game : Payoffs) (offset : ℕ) : Type 0 where
  pub few : offset ≤ 1000000
  pub least : 0 < offset → least game ≡ 0
