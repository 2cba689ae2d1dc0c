-- Ranks by the verdicts of spans.
use Rattle.std.specs.Prelude.{ℕ, ◌+◌, Bool, true, false, List, ◌++◌, length, map, take, drop, count_by, slice_index_or, pos, if◌then◌else◌}
use Rattle.std.specs.List.{list_any, range_with_len}
use Rattle.fixed_span.specs.declared.ordering.Verdict.{Verdict}
use Rattle.fixed_span.specs.declared.ordering.Verdict.TheVariants as verdicts
use Rattle.fixed_span.specs.Span.{Ends, point}
use Rattle.fixed_span.specs.Verdict.{verdict}
use Rattle.result_lines.specs.declared.ranking.Rank.{Rank}
use Rattle.result_lines.specs.declared.ranking.Rank.TheVariants.{At, Undecided}

abbrev pub is_greater : Verdict → Bool
is_greater verdicts.Less = false
is_greater verdicts.Greater = true
is_greater verdicts.Level = false
is_greater verdicts.Undecided = false

abbrev pub is_undecided : Verdict → Bool
is_undecided verdicts.Less = false
is_undecided verdicts.Greater = false
is_undecided verdicts.Level = false
is_undecided verdicts.Undecided = true

-- the span at a place
abbrev pub span_at : List Ends → ℕ → Ends
span_at spans i = slice_index_or spans i (point (pos 0))

-- all spans but the one at a place
abbrev pub others : List Ends → ℕ → List Ends
others spans i = take i spans ++ drop (i + 1) spans

-- some of the others has no known order with the own span
abbrev pub undecided_among : List Ends → Ends → Bool
undecided_among others own = list_any (λ other. is_undecided (verdict other own)) others

-- how many of the others are greater than the own span
abbrev pub greater_among : List Ends → Ends → ℕ
greater_among others own = count_by (λ other. is_greater (verdict other own)) others

-- 1 plus the number of the others that are greater; undecided where the order with some other isn't known
abbrev pub rank_of : List Ends → ℕ → Rank
rank_of spans i =
    if undecided_among (others spans i) (span_at spans i) then Undecided
    else At (1 + greater_among (others spans i) (span_at spans i))

-- the ranks of all
abbrev pub ranks_of : List Ends → List Rank
ranks_of spans = map (rank_of spans) (range_with_len 0 (length spans))
