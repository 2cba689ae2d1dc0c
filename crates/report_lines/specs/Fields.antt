-- The fields of lines: how each kind of value is written and read, and its range.
use Rattle.std.specs.Prelude.{codes, ℕ, ◌*◌, ◌^◌, ◌&&◌, Bool, true, nat_lt, nat_le, ℤ, pos, neg_ℤ, int_lt, int_le, List, [], ◌∷◌, ◌++◌, Option, Some, None, if◌then◌else◌}
use Rattle.std.specs.Fmt.{decimal}
use Rattle.std.specs.Ordering.{int_eq}
use Rattle.std.specs.Str.{bytes_eq}
use Rattle.history_model.specs.Name.{is_name}
use Rattle.history_model.specs.Noise.{FlipRate}
use Rattle.texts.specs.Cuts.{before, behind}
use Rattle.texts.specs.Forms.{Form}
use Rattle.texts.specs.Numbers.{◌>>=◌, small, point_text}
use Rattle.texts.specs.Signed.{signed_text, signed, signed_at}
use Rattle.fixed_span.specs.Span.{Ends, point}
use Rattle.report_lines.specs.declared.line.Kind.{Kind}
use Rattle.report_lines.specs.declared.line.Kind.TheVariants as kinds

-- the first field
abbrev pub field : List ℕ → List ℕ
field t = before 124 t

-- what stands behind the first field
abbrev pub rest : List ℕ → List ℕ
rest t = behind 124 t

-- the name that a field is
abbrev pub name_of : List ℕ → Option (List ℕ)
name_of t = if is_name t then Some t else None

-- a name
abbrev pub a_name : Form (List ℕ)
a_name = record { text = λ name. name; read = name_of; is_in = is_name }

-- a number of matches or entries, below 2^32
abbrev pub is_count : ℕ → Bool
is_count n = nat_lt n (2 ^ 32)

-- the count that a field shows
unfoldable pub count_of : List ℕ → Option ℕ
count_of t = small t >>= λ n. if is_count n then Some n else None

-- a count
abbrev pub a_count : Form ℕ
a_count = record { text = decimal; read = count_of; is_in = is_count }

-- a rank, or that the totals leave it undecided
abbrev pub rank_text : Option ℕ → List ℕ
rank_text None = codes "undecided"
rank_text (Some rank) = decimal rank

-- the rank that a field shows, which may be undecided
unfoldable pub rank_of : List ℕ → Option (Option ℕ)
rank_of t = if bytes_eq t (codes "undecided") then Some None else (count_of t >>= λ rank. Some (Some rank))

-- a rank is a count, where it is decided
abbrev pub is_rank : Option ℕ → Bool
is_rank None = true
is_rank (Some rank) = is_count rank

-- a rank
abbrev pub a_rank : Form (Option ℕ)
a_rank = record { text = rank_text; read = rank_of; is_in = is_rank }

-- an end of a score: a point of twelve decimals, with a sign
abbrev pub end_text : ℤ → List ℕ
end_text units = signed_text (point_text 12) units

-- a score: a point once, and any other span by both ends with `..` between
abbrev pub score_text : Ends → List ℕ
score_text score = if int_eq score.lo score.hi then end_text score.lo else end_text score.lo ++ (46 ∷ 46 ∷ end_text score.hi)

-- the upper end, where it is above the lower
abbrev pub above : ℤ → ℤ × List ℕ → Option Ends
above lo high = if int_lt lo high.0 then Some (record { lo = lo; hi = high.0 }) else None

-- the score whose lower end is lo, from what stands behind that; the two bytes before the upper end aren't looked at
abbrev pub score_from : ℤ → List ℕ → Option Ends
score_from lo [] = Some (point lo)
score_from lo (b ∷ []) = None
score_from lo (b ∷ c ∷ more) = signed_at 12 more >>= above lo

-- the score that a field shows
unfoldable pub score_of : List ℕ → Option Ends
score_of t = signed_at 12 t >>= λ low. score_from low.0 low.1

-- at most so many units above 0 or below
abbrev pub is_within : ℕ → Ends → Bool
is_within most score = int_le (neg_ℤ (pos most)) score.lo && (int_le score.lo score.hi && int_le score.hi (pos most))

-- from -10^33 to 10^33 units
abbrev pub is_score : Ends → Bool
is_score score = is_within (10 ^ 33) score

-- from -10^37 to 10^37 units
abbrev pub is_total : Ends → Bool
is_total total = is_within (10 ^ 37) total

-- a total
abbrev pub a_total : Form Ends
a_total = record { text = score_text; read = score_of; is_in = is_total }

-- a score that is a point
abbrev pub points_text : ℤ → List ℕ
points_text units = score_text (point units)

-- the points that a field shows; a span that is none has another text
unfoldable pub points_of : List ℕ → Option ℤ
points_of t = score_of t >>= λ score. Some score.lo

-- from 0 to 10^37 units
abbrev pub are_points : ℤ → Bool
are_points units = int_le (pos 0) units && int_le units (pos (10 ^ 37))

-- a total that is a point
abbrev pub a_point : Form ℤ
a_point = record { text = points_text; read = points_of; is_in = are_points }

-- the absolute value of a payoff, at most 1,000,000
abbrev pub is_amount : ℕ → Bool
is_amount n = nat_le n 1000000

-- the amount that a field shows
unfoldable pub amount_of : List ℕ → Option ℕ
amount_of t = small t >>= λ n. if is_amount n then Some n else None

-- an amount
abbrev pub an_amount : Form ℕ
an_amount = record { text = decimal; read = amount_of; is_in = is_amount }

-- a payoff, from -1,000,000 to 1,000,000
abbrev pub a_payoff : Form ℤ
a_payoff = signed an_amount

-- the payoff that a field shows
unfoldable pub payoff_of : List ℕ → Option ℤ
payoff_of t = a_payoff.read t

-- whether a game is a prisoner's dilemma, as a word
abbrev pub dilemma_word : Bool → List ℕ
dilemma_word dilemma = if dilemma then codes "yes" else codes "no"

-- the last fields of a game, which say so
abbrev pub a_dilemma : Form Bool
a_dilemma = record { text = λ x. codes "dilemma|" ++ dilemma_word x; read = λ t. Some (bytes_eq t (codes "dilemma|yes")); is_in = λ _. true }

-- what a report is of, as a word
abbrev pub kind_word : Kind → List ℕ
kind_word kinds.Match = codes "match"
kind_word kinds.Tournament = codes "tournament"
kind_word kinds.Drill = codes "drill"

-- what a report is of, by its word
unfoldable pub kind_of : List ℕ → Option Kind
kind_of t = if bytes_eq t (codes "match") then Some kinds.Match else if bytes_eq t (codes "tournament") then Some kinds.Tournament else if bytes_eq t (codes "drill") then Some kinds.Drill else None

-- what a report is of
abbrev pub a_kind : Form Kind
a_kind = record { text = kind_word; read = kind_of; is_in = λ _. true }

-- a chance of at most one half, over a denominator from 1 to 1000
abbrev pub is_noise : FlipRate → Bool
is_noise noise = (nat_le 1 noise.e && nat_le noise.e 1000) && nat_le (2 * noise.n) noise.e

-- a noise n/e
abbrev pub noise_text : FlipRate → List ℕ
noise_text noise = decimal noise.n ++ 124 ∷ decimal noise.e

-- a noise that is one
abbrev pub in_range : FlipRate → Option FlipRate
in_range noise = if is_noise noise then Some noise else None

-- the noise that two fields show
unfoldable pub noise_of : List ℕ → Option FlipRate
noise_of t = do
  n ← small (field t)
  e ← small (field (rest t))
  in_range (record { n = n; e = e })

-- a noise
abbrev pub a_noise : Form FlipRate
a_noise = record { text = noise_text; read = noise_of; is_in = is_noise }
