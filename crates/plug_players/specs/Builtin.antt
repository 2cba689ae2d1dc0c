-- The built-in players: their names (after the Axelrod library), their automata, and their rules on histories.
-- Tit For Tat and Tit For Two Tats: Axelrod 1984. Win-Stay Lose-Shift: Nowak and Sigmund 1993. Grudger: Friedman 1971.
use Rattle.std.specs.Prelude.{ℕ, ◌≡◌, Bool, true, false, if◌then◌else◌, List, [], ◌∷◌, codes}
use Rattle.std.specs.List.{list_any}
use Rattle.history_model.specs.declared.moves.Move.{Move}
use Rattle.history_model.specs.declared.moves.Move.TheVariants.{C, D}
use Rattle.history_model.specs.Automaton.{Automaton, Row, IsSure}
use Rattle.history_model.specs.History.{History}
use Rattle.history_model.specs.Tree.{certain}
use Rattle.player_core.specs.declared.kind.Kind.TheVariants.{Plug}
use Rattle.player_core.specs.Rule.{newest, heard_in, own_rule}
use Rattle.player_core.specs.State.{PlayerState}
use Rattle.plug_players.specs.declared.builtin.Builtin.{Builtin}
use Rattle.plug_players.specs.declared.builtin.Builtin.TheVariants.{Cooperator, Defector, TitForTat, TitForTwoTats, Grudger, WinStayLoseShift, Alternator}

abbrev pub builtin_name : Builtin → List ℕ
builtin_name Cooperator = codes "Cooperator"
builtin_name Defector = codes "Defector"
builtin_name TitForTat = codes "Tit For Tat"
builtin_name TitForTwoTats = codes "Tit For Two Tats"
builtin_name Grudger = codes "Grudger"
builtin_name WinStayLoseShift = codes "Win-Stay Lose-Shift"
builtin_name Alternator = codes "Alternator"

-- a row: its weight of C, and the next rows after CC, CD, DC and DD
abbrev pub row : ℕ → ℕ → ℕ → ℕ → ℕ → Row
row weight cc cd dc dd = record { weight = weight; cc = cc; cd = cd; dc = dc; dd = dd }

abbrev pub builtin_rows : Builtin → List Row
builtin_rows Cooperator = row 1 0 0 0 0 ∷ []
builtin_rows Defector = row 0 0 0 0 0 ∷ []
builtin_rows TitForTat = row 1 0 1 0 1 ∷ row 0 0 1 0 1 ∷ []
builtin_rows TitForTwoTats = row 1 0 1 0 1 ∷ row 1 0 2 0 2 ∷ row 0 0 2 0 2 ∷ []
builtin_rows Grudger = row 1 0 1 0 1 ∷ row 0 1 1 1 1 ∷ []
builtin_rows WinStayLoseShift = row 1 0 1 1 0 ∷ row 0 0 1 1 0 ∷ []
builtin_rows Alternator = row 1 1 1 0 0 ∷ row 0 1 1 0 0 ∷ []

-- weights are 0 or 1, over 1, and every built-in begins at its first row
abbrev pub builtin_automaton : Builtin → Automaton
builtin_automaton which = record { den = 1; start = 0; rows = builtin_rows which }

-- a built-in as a player
abbrev pub builtin_state : Builtin → ℕ → ℕ → ℕ → PlayerState
builtin_state which mark turns returns =
    record {
      lasting = record { kind = Plug; name = builtin_name which; automaton = builtin_automaton which };
      mark = mark;
      turns = turns;
      returns = returns;
    }

-- at its start, and never yet advanced or resumed
abbrev pub builtin_at_start : Builtin → PlayerState
builtin_at_start which = builtin_state which 0 0 0

abbrev pub opposite : Move → Move
opposite C = D
opposite D = C

abbrev pub is_defection : Move → Bool
is_defection C = false
is_defection D = true

-- D after two D, else C
abbrev pub after_two : Move → Move → Move
after_two D D = D
after_two C D = C
after_two D C = C
after_two C C = C

-- C after CC and DD, else D
abbrev pub after_like : Move → Move → Move
after_like C C = C
after_like D D = C
after_like C D = D
after_like D C = D

-- what comes of the last two of a list that begins with x and y
abbrev pub of_newest_two : {X Y : Type 0} → (X → X → Y) → X → X → List X → Y
of_newest_two f x y [] = f x y
of_newest_two f x y (z ∷ rest) = of_newest_two f y z rest

-- C first, then the other's last move
abbrev pub tit_for_tat : History → Move
tit_for_tat [] = C
tit_for_tat (play ∷ rest) = (newest play rest).theirs

-- D where there are two plays, and the other's last two moves are both D
abbrev pub tit_for_two_tats : History → Move
tit_for_two_tats [] = C
tit_for_two_tats (play ∷ []) = C
tit_for_two_tats (play ∷ next ∷ rest) = of_newest_two (λ before last. after_two before.theirs last.theirs) play next rest

-- D where some move of the other is D
abbrev pub grudger : History → Move
grudger history = if list_any is_defection (heard_in history) then D else C

-- C first, then C where the last play was CC or DD
abbrev pub win_stay_lose_shift : History → Move
win_stay_lose_shift [] = C
win_stay_lose_shift (play ∷ rest) = let last = newest play rest in after_like last.mine last.theirs

-- C first, then the opposite of the own last move
abbrev pub alternator : History → Move
alternator [] = C
alternator (play ∷ rest) = opposite (newest play rest).mine

-- the move of a built-in after a history, by the history itself
abbrev pub builtin_rule : Builtin → History → Move
builtin_rule Cooperator history = C
builtin_rule Defector history = D
builtin_rule TitForTat history = tit_for_tat history
builtin_rule TitForTwoTats history = tit_for_two_tats history
builtin_rule Grudger history = grudger history
builtin_rule WinStayLoseShift history = win_stay_lose_shift history
builtin_rule Alternator history = alternator history

-- the law: where a history leads its automaton, the weight is 1 where the rule says C, else 0
abbrev pub BuiltinsFollowTheirRules : Type 0
BuiltinsFollowTheirRules =
    (which : Builtin) (history : History) → own_rule (builtin_automaton which) history ≡ certain (builtin_rule which history)

-- the law: every automaton is sure
abbrev pub BuiltinsAreSure : Type 0
BuiltinsAreSure = (which : Builtin) → IsSure (builtin_automaton which)
