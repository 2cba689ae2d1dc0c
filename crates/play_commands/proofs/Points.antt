-- Spans that are points: their sums are, and their order is always known.
use Rattle.std.proofs.Common.{◌≡◌, ℕ, ◌+◌, ◌*◌, ◌^◌, ◌==◌, Bool, true, false, ◌&&◌, ◌||◌, if◌then◌else◌, List, [], ◌∷◌, length, take, drop, ℤ, pos, ◌≤ℤ◌, Option, Some, None, refl, ◌∙◌, ap, arith, rules}
use Rattle.std.specs.Prelude.{int_lt}
use Rattle.std.specs.Ordering.{int_eq}
use Rattle.std.specs.List.{All, list_any}
use Rattle.std.proofs.lemmas.Int.{ints}
use Rattle.std.proofs.lemmas.Bool.Decides.{Decides-int_eq}
use Rattle.std.proofs.lemmas.List.Elements.{All-head, All-tail, All-append, All-take, All-drop}
use Rattle.history_model.specs.Game.{Payoffs}
use Rattle.player_core.specs.State.{Lasting}
use Rattle.history_model.specs.declared.tally.Tally.{Tally}
use Rattle.fixed_span.specs.declared.ordering.Verdict.TheVariants as verdicts
use Rattle.fixed_span.specs.Span.{Ends, point}
use Rattle.fixed_span.specs.Verdict.{is_level, verdict}
use Rattle.result_lines.specs.declared.line.MatchLine.{MatchLine}
use Rattle.sheet_rules.specs.Entrants.{Entrant, IsSurePair}
use Rattle.sheet_rules.specs.RightLine.{IsRightScore}
use Rattle.result_lines.specs.declared.ranking.Rank.TheVariants.{At}
use Rattle.result_lines.specs.Ranks.{greater_among, is_undecided, others, rank_of, span_at, undecided_among}
use Rattle.result_lines.specs.Totals.{total_of}

abbrev pub IsPoint : Ends → Type 0
IsPoint span = span.lo ≡ span.hi

-- a score that is a point, from 0 to 10^30
pub record IsPaid (span : Ends) : Type 0 where
  pub point : IsPoint span
  pub low : pos 0 ≤ℤ span.lo
  pub high : span.hi ≤ℤ pos (10 ^ 30)

pub record ArePaid (line : MatchLine) : Type 0 where
  pub left : IsPaid line.left_score
  pub right : IsPaid line.right_score

-- ---- the lines of sure matches

point_is : (span : Ends) (v : ℤ) → span ≡ point v → IsPoint span
point_is span v is = rw is refl

pub played_points : (players : List Lasting) (game : Payoffs) (offset : ℕ) (left right : Entrant) (line : MatchLine) (tally : Option Tally)
    → IsSurePair players left right → IsRightScore players game offset left right line tally → IsPoint line.left_score × IsPoint line.right_score
played_points players game offset left right line (Some tally) sure played = (point_is line.left_score _ played.left_score, point_is line.right_score _ played.right_score)
played_points players game offset left right line None sure mixed = absurd (mixed.unsure sure)

-- ---- totals

-- a sum of so many scores that are points
pub record IsPaidUpTo (n : ℕ) (span : Ends) : Type 0 where
  pub point : IsPoint span
  pub low : pos 0 ≤ℤ span.lo
  pub high : span.hi ≤ℤ pos (n * 10 ^ 30)

own_by : (left right : Bool) (line : MatchLine) → ArePaid line → IsPaidUpTo 1 (if left then line.left_score else if right then line.right_score else point (pos 0))
own_by true right line paid = record { point = paid.left.point; low = paid.left.low; high = omega (arith, ints, paid.left.high) }
own_by false true line paid = record { point = paid.right.point; low = paid.right.low; high = omega (arith, ints, paid.right.high) }
own_by false false line paid = record { point = refl; low = omega (arith, ints); high = omega (arith, ints) }

pub total_paid : (i : ℕ) (lines : List MatchLine) → All ArePaid lines → IsPaidUpTo (length lines) (total_of i lines)
total_paid i [] paid = record { point = refl; low = omega (arith, ints); high = omega (arith, ints) }
total_paid i (line ∷ lines) paid =
    let own = own_by (line.left == i) (line.right == i) line (All-head ArePaid line lines paid) in
    let rest = total_paid i lines (All-tail ArePaid line lines paid) in
    record {
      point = omega (arith, ints, own.point, rest.point);
      low = omega (arith, ints, own.low, rest.low);
      high = omega (arith, ints, own.high, rest.high);
    }

-- ---- order

known : (less more level : Bool) → (less ≡ false → more ≡ false → level ≡ true)
    → is_undecided (if less then verdicts.Less else if more then verdicts.Greater else if level then verdicts.Level else verdicts.Undecided) ≡ false
known true more level tests = refl
known false true level tests = refl
known false false true tests = refl
known false false false tests = absurd (let e : false ≡ true = tests refl refl in cc)

neither_less : (a b : ℤ) → int_lt a b ≡ false → int_lt b a ≡ false → a ≡ b
neither_less a b h k = search (rules, ints)

all_three : (x y z : Bool) → x ≡ true → y ≡ true → z ≡ true → ((x && y) && z) ≡ true
all_three true true true e f g = refl
all_three false y z e f g = absurd (cc)
all_three true false z e f g = absurd (cc)
all_three true true false e f g = absurd (cc)

order_known : (a b : Ends) → IsPoint a → IsPoint b → is_undecided (verdict a b) ≡ false
order_known a b p q = known (int_lt a.hi b.lo) (int_lt b.hi a.lo) (is_level a b) (λ e f.
    let same : a.lo ≡ b.lo = p ∙ neither_less a.hi b.lo e (rw (p, ← q) at f) in
    all_three (int_eq a.lo a.hi) (int_eq b.lo b.hi) (int_eq a.lo b.lo) ((Decides-int_eq a.lo a.hi).1 p) ((Decides-int_eq b.lo b.hi).1 q) ((Decides-int_eq a.lo b.lo).1 same))

none_undecided : (own : Ends) → IsPoint own → (spans : List Ends) → All IsPoint spans → undecided_among spans own ≡ false
none_undecided own p [] all = refl
none_undecided own p (s ∷ ss) all =
    let here = order_known s own (All-head IsPoint s ss all) p in
    let rest = none_undecided own p ss (All-tail IsPoint s ss all) in
    ap (λ b. b || list_any (λ other. is_undecided (verdict other own)) ss) here ∙ rest

-- the rank of a point among points is known
pub rank_known : (spans : List Ends) (i : ℕ) → All IsPoint spans → IsPoint (span_at spans i)
    → rank_of spans i ≡ At (1 + greater_among (others spans i) (span_at spans i))
rank_known spans i all own =
    let none = none_undecided (span_at spans i) own (others spans i)
    (All-append IsPoint (take i spans) (drop (i + 1) spans) (All-take IsPoint i spans all) (All-drop IsPoint (i + 1) spans all)) in
    rw none refl
