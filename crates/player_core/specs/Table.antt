-- The automaton of a lookup table (lookup tables after the Axelrod library's lookerup players).
use Rattle.std.specs.Prelude.{ℕ, zero, suc, ◌+◌, ◌-◌, ◌*◌, ◌/◌, ◌%◌, ◌^◌, nat_le, nat_lt, map, min, slice_index, if◌then◌else◌}
use Rattle.std.specs.List.{range_with_len}
use Rattle.history_model.specs.declared.moves.Move.{Move}
use Rattle.history_model.specs.declared.moves.Move.TheVariants.{C, D}
use Rattle.history_model.specs.Automaton.{Automaton, Row}
use Rattle.player_core.specs.Sheet.{SheetData, depth, digit}

-- how many plays a table has looked at after so many turns
abbrev pub width : SheetData → ℕ → ℕ
width sheet turns = min turns sheet.own + min turns sheet.other + min turns sheet.first

-- the first of the rows that stand for so many turns: there is one row for each choice of the plays looked at
abbrev pub base : SheetData → ℕ → ℕ
base sheet zero = 0
base sheet (suc turns) = base sheet turns + 2 ^ width sheet turns

-- the rows of all turns up to the depth
abbrev pub table_rows : SheetData → ℕ
table_rows sheet = base sheet (depth sheet + 1)

-- what a table knows of a history: the turns, up to its depth, and what it looks at as binary numbers, oldest play first:
-- own last plays, the other's last plays and the other's first plays
pub record Seen : Type 0 where
  pub turns : ℕ
  pub own : ℕ
  pub other : ℕ
  pub first : ℕ

-- the row that stands for it
abbrev pub row_of_seen : SheetData → Seen → ℕ
row_of_seen sheet seen =
    base sheet seen.turns + ((seen.own * 2 ^ min seen.turns sheet.other + seen.other) * 2 ^ min seen.turns sheet.first + seen.first)

-- after one more play: last plays drop their oldest where there is no room, first plays take it while there is
abbrev pub seen_after : SheetData → Seen → Move → Move → Seen
seen_after sheet seen mine theirs =
    let turns = min (seen.turns + 1) (depth sheet) in
    record {
      turns = turns;
      own = (2 * seen.own + digit mine) % 2 ^ min turns sheet.own;
      other = (2 * seen.other + digit theirs) % 2 ^ min turns sheet.other;
      first = if nat_lt seen.turns sheet.first then 2 * seen.first + digit theirs else seen.first;
    }

-- the greatest number of turns, up to a limit, whose rows begin at the row or before it
abbrev pub turns_up_to : SheetData → ℕ → ℕ → ℕ
turns_up_to sheet row zero = 0
turns_up_to sheet row (suc limit) = if nat_le (base sheet (suc limit)) row then suc limit else turns_up_to sheet row limit

abbrev pub turns_at : SheetData → ℕ → ℕ
turns_at sheet row = turns_up_to sheet row (depth sheet)

-- what a row stands for
abbrev pub seen_at : SheetData → ℕ → Seen
seen_at sheet row =
    let turns = turns_at sheet row in
    let place = row - base sheet turns in
    let others = 2 ^ min turns sheet.other in
    let firsts = 2 ^ min turns sheet.first in
    record { turns = turns; own = place / firsts / others; other = place / firsts % others; first = place % firsts }

-- the opening of the turn, and from the depth on the weight in the table
abbrev pub table_weight : SheetData → ℕ → ℕ
table_weight sheet row =
    let turns = turns_at sheet row in
    if nat_lt turns (depth sheet) then slice_index sheet.opening turns else slice_index sheet.table (row - base sheet turns)

abbrev pub table_next : SheetData → ℕ → Move → Move → ℕ
table_next sheet row mine theirs = row_of_seen sheet (seen_after sheet (seen_at sheet row) mine theirs)

abbrev pub table_row : SheetData → ℕ → Row
table_row sheet row =
    record {
      weight = table_weight sheet row;
      cc = table_next sheet row C C;
      cd = table_next sheet row C D;
      dc = table_next sheet row D C;
      dd = table_next sheet row D D;
    }

-- a row for each choice of the plays looked at after each number of turns up to the depth; it starts with none
abbrev pub table_automaton : SheetData → Automaton
table_automaton sheet = record { den = sheet.den; start = 0; rows = map (table_row sheet) (range_with_len 0 (table_rows sheet)) }
