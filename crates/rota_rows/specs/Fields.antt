-- The fields of lines that show a match: how each kind of value is written and read, and its range.
use Rattle.std.specs.Prelude.{ℕ, ◌^◌, ◌==◌, Bool, nat_lt, nat_le, ℤ, unsigned_abs, List, length, Option, Some, None, if◌then◌else◌}
use Rattle.std.specs.Fmt.{decimal}
use Rattle.history_model.specs.Name.{is_name}
use Rattle.texts.specs.Forms.{Form}
use Rattle.texts.specs.Numbers.{◌>>=◌, small, point_text}
use Rattle.texts.specs.Signed.{signed_text, signed_at}

-- the name that a field is
abbrev pub name_of : List ℕ → Option (List ℕ)
name_of t = if is_name t then Some t else None

-- a name
abbrev pub a_name : Form (List ℕ)
a_name = record { text = λ name. name; read = name_of; is_in = is_name }

-- a number below 2^32
abbrev pub is_count : ℕ → Bool
is_count n = nat_lt n (2 ^ 32)

-- the count that a field shows
unfoldable pub count_of : List ℕ → Option ℕ
count_of t = small t >>= λ n. if is_count n then Some n else None

-- a count
abbrev pub a_count : Form ℕ
a_count = record { text = decimal; read = count_of; is_in = is_count }

-- the row of an automaton, of which there are at most 512
abbrev pub is_mark : ℕ → Bool
is_mark n = nat_lt n 512

-- the mark that a field shows
unfoldable pub mark_of : List ℕ → Option ℕ
mark_of t = small t >>= λ n. if is_mark n then Some n else None

-- a mark
abbrev pub a_mark : Form ℕ
a_mark = record { text = decimal; read = mark_of; is_in = is_mark }

-- how often a play came, at most 10^12 times
abbrev pub are_plays : ℕ → Bool
are_plays n = nat_le n (10 ^ 12)

-- the number of plays that a field shows
unfoldable pub plays_of : List ℕ → Option ℕ
plays_of t = small t >>= λ n. if are_plays n then Some n else None

-- a number of plays
abbrev pub some_plays : Form ℕ
some_plays = record { text = decimal; read = plays_of; is_in = are_plays }

-- a score that is a point of twelve decimals, with a sign
abbrev pub end_text : ℤ → List ℕ
end_text units = signed_text (point_text 12) units

-- the score that a field shows; nothing stands behind it
unfoldable pub score_of : List ℕ → Option ℤ
score_of t = signed_at 12 t >>= λ x. if length x.1 == 0 then Some x.0 else None

-- up to 10^37 units above 0 or below
abbrev pub is_score : ℤ → Bool
is_score units = nat_le (unsigned_abs units) (10 ^ 37)

-- a score
abbrev pub a_score : Form ℤ
a_score = record { text = end_text; read = score_of; is_in = is_score }
