-- A table's automaton follows the table's rule.
use Rattle.std.proofs.Common.{◌≡◌, ℕ, ◌+◌, ◌*◌, ◌^◌, ◌<◌, ◌≤◌, List, [], ◌∷◌, ◌++◌, length, take, min, refl, ap, sym, ◌∙◌, inl, inr, arith, append_assoc, nat_lt, if◌then◌else◌}
use Rattle.std.proofs.lemmas.Bool.{cases_lt, lt-ltb, le-ltb}
use Rattle.std.proofs.lemmas.Nat.{pow-add}
use Rattle.std.proofs.lemmas.List.{append-nil, length-append, length-map, length-take, map_push, take_all}
use Rattle.history_model.specs.declared.moves.Move.{Move}
use Rattle.history_model.specs.declared.moves.Play.{Play}
use Rattle.history_model.specs.Automaton.{weight_at, next_row, next_of}
use Rattle.history_model.specs.History.{History, walk}
use Rattle.player_core.specs.declared.kind.Kind.TheVariants.{Lookup}
use Rattle.player_core.specs.AutomatonOf.{automaton_of}
use Rattle.player_core.specs.Rule.{FollowsRule, own_in, heard_in, last, moves_number, looked_at, table_rule, own_rule, rule}
use Rattle.player_core.specs.Sheet.{SheetData, depth, digit}
use Rattle.player_core.specs.Table.{Seen, row_of_seen, seen_after, table_automaton}
use Rattle.lookup_player.specs.Lookup.{IsSeen}
use Rattle.lookup_player.proofs.Numbers.{number_append, number_below, length_last, last_all, last_more, first_more, first_full}
use Rattle.lookup_player.proofs.Places.{place_of, place_inside, row_inside, seen_again, weight_here, weight_of_place}
use Rattle.lookup_player.proofs.Tables.{row_is, next_of_row}

-- what a table knows of a history
abbrev seen_of : SheetData → History → Seen
seen_of sheet history =
    record {
      turns = min (length history) (depth sheet);
      own = moves_number (last sheet.own (own_in history));
      other = moves_number (last sheet.other (heard_in history));
      first = moves_number (take sheet.first (heard_in history));
    }

seen_like : (turns turns_too own own_too other other_too first first_too : ℕ) → turns ≡ turns_too → own ≡ own_too → other ≡ other_too → first ≡ first_too
    → (let seen : Seen = record { turns = turns; own = own; other = other; first = first } in seen)
    ≡ (let seen : Seen = record { turns = turns_too; own = own_too; other = other_too; first = first_too } in seen)
seen_like turns turns_too own own_too other other_too first first_too a b c d = rw (a, b, c, d) refl

own_count : (history : History) → length (own_in history) ≡ length history
own_count history = length-map history (λ play. play.mine)

heard_count : (history : History) → length (heard_in history) ≡ length history
heard_count history = length-map history (λ play. play.theirs)

last_below : (turns most n : ℕ) (moves : List Move) → turns ≡ min (length moves) most → n ≤ most → moves_number (last n moves) < 2 ^ min turns n
last_below turns most n moves is within =
    let count : length (last n moves) ≡ min turns n = omega (arith, length_last n moves) in
    omega (arith, number_below (last n moves), ap (λ e. 2 ^ e) count)

first_below : (turns most n : ℕ) (moves : List Move) → turns ≡ min (length moves) most → n ≤ most → moves_number (take n moves) < 2 ^ min turns n
first_below turns most n moves is within =
    let count : length (take n moves) ≡ min turns n = omega (arith, length-take n moves) in
    omega (arith, number_below (take n moves), ap (λ e. 2 ^ e) count)

is_seen : (sheet : SheetData) (history : History) → IsSeen sheet (seen_of sheet history)
is_seen sheet history =
    record {
      turns = omega arith;
      own = last_below _ (depth sheet) sheet.own (own_in history) (omega (arith, own_count history)) (omega arith);
      other = last_below _ (depth sheet) sheet.other (heard_in history) (omega (arith, heard_count history)) (omega arith);
      first = first_below _ (depth sheet) sheet.first (heard_in history) (omega (arith, heard_count history)) (omega arith);
    }

-- the first n after one move more
first_after : (turns most n : ℕ) (moves : List Move) (move : Move) → turns ≡ min (length moves) most → n ≤ most
    → moves_number (take n (moves ++ move ∷ [])) ≡ (if nat_lt turns n then 2 * moves_number (take n moves) + digit move else moves_number (take n moves))
first_after turns most n moves move is within =
    elim (cases_lt turns n) [
      | inl room ↦ rw (lt-ltb turns n room) (first_more n moves move (omega arith))
      | inr full ↦ rw (le-ltb turns n full) (ap moves_number (first_full n moves move (omega arith)))
    ]

-- a play more is seen
seen_more : (sheet : SheetData) (history : History) (play : Play)
    → seen_of sheet (history ++ play ∷ []) ≡ seen_after sheet (seen_of sheet history) play.mine play.theirs
seen_more sheet history play =
    let longer : length (history ++ play ∷ []) ≡ length history + 1 = omega (arith, length-append history (play ∷ [])) in
    let turns : ℕ = min (min (length history) (depth sheet) + 1) (depth sheet) in
    seen_like _ _ _ _ _ _ _ _ (omega arith)
    (ap (λ moves. moves_number (last sheet.own moves)) (map_push (λ (p : Play). p.mine) history play)
    ∙ last_more sheet.own turns (own_in history) play.mine (omega (arith, own_count history)))
    (ap (λ moves. moves_number (last sheet.other moves)) (map_push (λ (p : Play). p.theirs) history play)
    ∙ last_more sheet.other turns (heard_in history) play.theirs (omega (arith, heard_count history)))
    (ap (λ moves. moves_number (take sheet.first moves)) (map_push (λ (p : Play). p.theirs) history play)
    ∙ first_after (min (length history) (depth sheet)) (depth sheet) sheet.first (heard_in history) play.theirs (omega (arith, heard_count history)) (omega arith))

-- one step of the automaton
step : (sheet : SheetData) (history : History) (play : Play)
    → next_row (table_automaton sheet) (row_of_seen sheet (seen_of sheet history)) play ≡ row_of_seen sheet (seen_of sheet (history ++ play ∷ []))
step sheet history play =
    let row = row_of_seen sheet (seen_of sheet history) in
    ap (λ r. next_of r play.mine play.theirs) (row_is sheet row (row_inside sheet (seen_of sheet history) (is_seen sheet history)))
    ∙ next_of_row sheet row play.mine play.theirs
    ∙ ap (λ seen. row_of_seen sheet (seen_after sheet seen play.mine play.theirs)) (seen_again sheet (seen_of sheet history) (is_seen sheet history))
    ∙ ap (row_of_seen sheet) (sym (seen_more sheet history play))

walk_on : (sheet : SheetData) (past rest : History)
    → walk (table_automaton sheet) (row_of_seen sheet (seen_of sheet past)) rest ≡ row_of_seen sheet (seen_of sheet (past ++ rest))
walk_on sheet past [] = ap (λ history. row_of_seen sheet (seen_of sheet history)) (sym (append-nil past))
walk_on sheet past (play ∷ rest) =
    ap (λ row. walk (table_automaton sheet) row rest) (step sheet past play)
    ∙ walk_on sheet (past ++ play ∷ []) rest
    ∙ ap (λ history. row_of_seen sheet (seen_of sheet history)) (append_assoc past (play ∷ []) rest)

none_seen : (sheet : SheetData) → row_of_seen sheet (seen_of sheet []) ≡ 0
none_seen sheet =
    ap (row_of_seen sheet) (seen_like _ 0 _ 0 _ 0 _ 0 (omega arith) (ap moves_number (last_all sheet.own [] (omega arith))) (ap moves_number (last_all sheet.other [] (omega arith))) (ap moves_number (take_all sheet.first [] (omega arith))))
    ∙ omega arith

-- a history leads to the row of what is seen of it
leads_to : (sheet : SheetData) (history : History) → walk (table_automaton sheet) 0 history ≡ row_of_seen sheet (seen_of sheet history)
leads_to sheet history =
    ap (λ row. walk (table_automaton sheet) row history) (sym (none_seen sheet)) ∙ walk_on sheet [] history

-- the place of what is seen is the number of what is looked at
joined : (own other first : List Move) (j k : ℕ) → length other ≡ j → length first ≡ k
    → (moves_number own * 2 ^ j + moves_number other) * 2 ^ k + moves_number first ≡ moves_number (own ++ (other ++ first))
joined own other first j k others firsts =
    let both : length (other ++ first) ≡ j + k = omega (arith, length-append other first) in
    let whole : moves_number own * 2 ^ length (other ++ first) ≡ moves_number own * (2 ^ j * 2 ^ k) =
    ap (λ e. moves_number own * 2 ^ e) both ∙ ap (λ p. moves_number own * p) (pow-add 2 j k) in
    let part : moves_number other * 2 ^ length first ≡ moves_number other * 2 ^ k = ap (λ e. moves_number other * 2 ^ e) firsts in
    omega (arith, number_append own (other ++ first), number_append other first)

looked_place : (sheet : SheetData) (history : History) → depth sheet ≤ length history
    → place_of sheet (seen_of sheet history) ≡ moves_number (looked_at sheet history)
looked_place sheet history long =
    joined (last sheet.own (own_in history)) (last sheet.other (heard_in history)) (take sheet.first (heard_in history)) _ _
    (omega (arith, length_last sheet.other (heard_in history), heard_count history))
    (omega (arith, length-take sheet.first (heard_in history), heard_count history))

rule_at : (sheet : SheetData) (history : History)
    → weight_of_place sheet (min (length history) (depth sheet)) (place_of sheet (seen_of sheet history)) ≡ table_rule sheet history
rule_at sheet history =
    elim (cases_lt (length history) (depth sheet)) [
      | inl early ↦
          let turns : min (length history) (depth sheet) ≡ length history = omega arith in
          rw (turns, lt-ltb (length history) (depth sheet) early) refl
      | inr late ↦
          let turns : min (length history) (depth sheet) ≡ depth sheet = omega arith in
          rw (looked_place sheet history late, turns, le-ltb (depth sheet) (depth sheet) (omega arith), le-ltb (length history) (depth sheet) late) refl
    ]

table_follows : (sheet : SheetData) (history : History) → own_rule (table_automaton sheet) history ≡ table_rule sheet history
table_follows sheet history =
    let seen : Seen = seen_of sheet history in
    let is = is_seen sheet history in
    ap (weight_at (table_automaton sheet)) (leads_to sheet history)
    ∙ ap (λ r. r.weight) (row_is sheet (row_of_seen sheet seen) (row_inside sheet seen is))
    ∙ weight_here sheet seen.turns (place_of sheet seen) is.turns (place_inside sheet seen is)
    ∙ rule_at sheet history

pub tables_follow : FollowsRule Lookup
tables_follow sheet own history valid is =
    rw (is, automaton_of, rule) (table_follows sheet history)
