-- Where histories lead the automata of the built-ins.
use Rattle.std.proofs.Common.{◌≡◌, ℕ, ◌||◌, if◌then◌else◌, [], ◌∷◌, refl, ◌∙◌, ap}
use Rattle.std.specs.List.{list_any}
use Rattle.std.proofs.lemmas.List.Folds.{fold_stays}
use Rattle.history_model.specs.declared.moves.Move.{Move}
use Rattle.history_model.specs.declared.moves.Move.TheVariants.{C, D}
use Rattle.history_model.specs.declared.moves.Play.{Play}
use Rattle.history_model.specs.Automaton.{weight_at, next_row}
use Rattle.history_model.specs.History.{History, walk}
use Rattle.history_model.specs.Tree.{certain}
use Rattle.player_core.specs.Rule.{newest, heard_in, own_rule}
use Rattle.plug_players.specs.declared.builtin.Builtin.{Builtin}
use Rattle.plug_players.specs.declared.builtin.Builtin.TheVariants.{Cooperator, Defector, TitForTat, TitForTwoTats, Grudger, WinStayLoseShift, Alternator}
use Rattle.plug_players.specs.Builtin.{builtin_automaton, builtin_rule, opposite, is_defection, after_two, after_like, of_newest_two}

abbrev pub Follows : Builtin → Type 0
Follows which = (history : History) → own_rule (builtin_automaton which) history ≡ certain (builtin_rule which history)

-- the weight of a built-in where a history leads it from a row
abbrev pub weight_after : Builtin → ℕ → History → ℕ
weight_after which row history = weight_at (builtin_automaton which) (walk (builtin_automaton which) row history)

-- the row after a play
abbrev pub row_after : Builtin → ℕ → Move → Move → ℕ
row_after which row mine theirs = next_row (builtin_automaton which) row (record { mine = mine; theirs = theirs })

-- a built-in that never leaves a row
stays : (which : Builtin) (row : ℕ) → ((mine theirs : Move) → row_after which row mine theirs ≡ row) → (history : History)
    → weight_after which row history ≡ weight_at (builtin_automaton which) row
stays which row steps history =
    ap (weight_at (builtin_automaton which)) (fold_stays (next_row (builtin_automaton which)) row (λ play. steps play.mine play.theirs) history)

-- the row that is about to play a move, in an automaton of two rows
abbrev pub place : Move → ℕ
place C = 0
place D = 1

abbrev pub Weighs : Builtin → Type 0
Weighs which = (move : Move) → weight_at (builtin_automaton which) (place move) ≡ certain move

-- a built-in that goes by the last play alone
abbrev pub Answers : Builtin → (Move → Move → Move) → Type 0
Answers which answer = (now mine theirs : Move) → row_after which (place now) mine theirs ≡ place (answer mine theirs)

answers_last : (which : Builtin) (answer : Move → Move → Move) → Weighs which → Answers which answer
    → (now : Move) (play : Play) (rest : History)
    → weight_after which (place now) (play ∷ rest) ≡ certain (answer (newest play rest).mine (newest play rest).theirs)
answers_last which answer weighs steps now play [] =
    ap (weight_at (builtin_automaton which)) (steps now play.mine play.theirs) ∙ weighs (answer play.mine play.theirs)
answers_last which answer weighs steps now play (next ∷ rest) =
    ap (λ row. weight_after which row (next ∷ rest)) (steps now play.mine play.theirs)
    ∙ answers_last which answer weighs steps (answer play.mine play.theirs) next rest

tit_for_tat_weighs : Weighs TitForTat
tit_for_tat_weighs C = refl
tit_for_tat_weighs D = refl

tit_for_tat_steps : Answers TitForTat (λ mine theirs. theirs)
tit_for_tat_steps C C C = refl
tit_for_tat_steps C C D = refl
tit_for_tat_steps C D C = refl
tit_for_tat_steps C D D = refl
tit_for_tat_steps D C C = refl
tit_for_tat_steps D C D = refl
tit_for_tat_steps D D C = refl
tit_for_tat_steps D D D = refl

tit_for_tat_follows : Follows TitForTat
tit_for_tat_follows [] = refl
tit_for_tat_follows (play ∷ rest) =
    answers_last TitForTat (λ mine theirs. theirs) tit_for_tat_weighs tit_for_tat_steps C play rest

win_stay_weighs : Weighs WinStayLoseShift
win_stay_weighs C = refl
win_stay_weighs D = refl

win_stay_steps : Answers WinStayLoseShift after_like
win_stay_steps C C C = refl
win_stay_steps C C D = refl
win_stay_steps C D C = refl
win_stay_steps C D D = refl
win_stay_steps D C C = refl
win_stay_steps D C D = refl
win_stay_steps D D C = refl
win_stay_steps D D D = refl

win_stay_follows : Follows WinStayLoseShift
win_stay_follows [] = refl
win_stay_follows (play ∷ rest) = answers_last WinStayLoseShift after_like win_stay_weighs win_stay_steps C play rest

alternator_weighs : Weighs Alternator
alternator_weighs C = refl
alternator_weighs D = refl

alternator_steps : Answers Alternator (λ mine theirs. opposite mine)
alternator_steps C C C = refl
alternator_steps C C D = refl
alternator_steps C D C = refl
alternator_steps C D D = refl
alternator_steps D C C = refl
alternator_steps D C D = refl
alternator_steps D D C = refl
alternator_steps D D D = refl

alternator_follows : Follows Alternator
alternator_follows [] = refl
alternator_follows (play ∷ rest) =
    answers_last Alternator (λ mine theirs. opposite mine) alternator_weighs alternator_steps C play rest

-- the row of Tit For Two Tats after the other's last two moves
abbrev pub place_two : Move → Move → ℕ
place_two before C = 0
place_two C D = 1
place_two D D = 2

two_tats_steps : (before last mine theirs : Move) → row_after TitForTwoTats (place_two before last) mine theirs ≡ place_two last theirs
two_tats_steps C C C C = refl
two_tats_steps C C C D = refl
two_tats_steps C C D C = refl
two_tats_steps C C D D = refl
two_tats_steps C D C C = refl
two_tats_steps C D C D = refl
two_tats_steps C D D C = refl
two_tats_steps C D D D = refl
two_tats_steps D C C C = refl
two_tats_steps D C C D = refl
two_tats_steps D C D C = refl
two_tats_steps D C D D = refl
two_tats_steps D D C C = refl
two_tats_steps D D C D = refl
two_tats_steps D D D C = refl
two_tats_steps D D D D = refl

two_tats_weighs : (before last : Move)
    → weight_at (builtin_automaton TitForTwoTats) (place_two before last) ≡ certain (after_two before last)
two_tats_weighs C C = refl
two_tats_weighs C D = refl
two_tats_weighs D C = refl
two_tats_weighs D D = refl

one_tat : (last : Move) → certain (after_two C last) ≡ 1
one_tat C = refl
one_tat D = refl

two_tats_walks : (before last : Play) (rest : History)
    → weight_after TitForTwoTats (place_two before.theirs last.theirs) rest
    ≡ certain (of_newest_two (λ before last. after_two before.theirs last.theirs) before last rest)
two_tats_walks before last [] = two_tats_weighs before.theirs last.theirs
two_tats_walks before last (next ∷ rest) =
    ap (λ row. weight_after TitForTwoTats row rest) (two_tats_steps before.theirs last.theirs next.mine next.theirs)
    ∙ two_tats_walks last next rest

two_tats_follows : Follows TitForTwoTats
two_tats_follows [] = refl
two_tats_follows (play ∷ []) =
    ap (weight_at (builtin_automaton TitForTwoTats)) (two_tats_steps C C play.mine play.theirs)
    ∙ two_tats_weighs C play.theirs ∙ one_tat play.theirs
two_tats_follows (play ∷ next ∷ rest) =
    ap (λ row. weight_after TitForTwoTats row (next ∷ rest)) (two_tats_steps C C play.mine play.theirs)
    ∙ ap (λ row. weight_after TitForTwoTats row rest) (two_tats_steps C play.theirs next.mine next.theirs)
    ∙ two_tats_walks play next rest

grudger_steps : (mine theirs : Move) → row_after Grudger 0 mine theirs ≡ place theirs
grudger_steps C C = refl
grudger_steps C D = refl
grudger_steps D C = refl
grudger_steps D D = refl

grudge_lasts : (mine theirs : Move) → row_after Grudger 1 mine theirs ≡ 1
grudge_lasts C C = refl
grudge_lasts C D = refl
grudge_lasts D C = refl
grudge_lasts D D = refl

-- the last heard move, and then a history
grudger_walks : (last : Move) (history : History)
    → weight_after Grudger (place last) history
    ≡ certain (if is_defection last || list_any is_defection (heard_in history) then D else C)
grudger_walks C [] = refl
grudger_walks C (play ∷ rest) =
    ap (λ row. weight_after Grudger row rest) (grudger_steps play.mine play.theirs) ∙ grudger_walks play.theirs rest
grudger_walks D history = stays Grudger 1 grudge_lasts history

cooperator_stays : (mine theirs : Move) → row_after Cooperator 0 mine theirs ≡ 0
cooperator_stays C C = refl
cooperator_stays C D = refl
cooperator_stays D C = refl
cooperator_stays D D = refl

defector_stays : (mine theirs : Move) → row_after Defector 0 mine theirs ≡ 0
defector_stays C C = refl
defector_stays C D = refl
defector_stays D C = refl
defector_stays D D = refl

pub follows_rule : (which : Builtin) → Follows which
follows_rule Cooperator = stays Cooperator 0 cooperator_stays
follows_rule Defector = stays Defector 0 defector_stays
follows_rule TitForTat = tit_for_tat_follows
follows_rule TitForTwoTats = two_tats_follows
follows_rule Grudger = grudger_walks C
follows_rule WinStayLoseShift = win_stay_follows
follows_rule Alternator = alternator_follows
