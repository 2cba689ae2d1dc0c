-- Histories: what was played, what it is paid, and where it leads.
use Rattle.std.specs.Prelude.{ℕ, ◌+◌, ℤ, pos, ◌+ℤ◌, ◌-ℤ◌, List, [], ◌∷◌, map, fold}
use Rattle.history_model.specs.declared.moves.Play.{Play}
use Rattle.history_model.specs.Game.{Payoffs, pay}
use Rattle.history_model.specs.Automaton.{Automaton, next_row}

-- a list of plays, newest last
abbrev pub History : Type 0
History = List Play

-- a play, and a history, as the other player sees it
abbrev pub turned_play : Play → Play
turned_play play = record { mine = play.theirs; theirs = play.mine }

abbrev pub turned : History → History
turned history = map turned_play history

-- the sum of the own payoffs
abbrev pub points : Payoffs → History → ℕ
points game [] = 0
points game (play ∷ rest) = pay game play.mine play.theirs + points game rest

-- the score: the sum of the own payoffs, each less the offset
abbrev pub score : Payoffs → ℕ → History → ℤ
score game offset [] = pos 0
score game offset (play ∷ rest) = (pos (pay game play.mine play.theirs) -ℤ pos offset) +ℤ score game offset rest

-- the row reached from a row by the next row of each play, oldest first
abbrev pub walk : Automaton → ℕ → History → ℕ
walk a row history = fold (next_row a) row history
