-- What a tournament makes of the lines of its matches.
use Rattle.std.specs.Prelude.{ℕ, ◌^◌, ◌≤ℤ◌, ◌==◌, ◌&&◌, ◌||◌, Bool, not, List, [], ◌∷◌, map, count_by, pos, neg_ℤ, if◌then◌else◌}
use Rattle.std.specs.List.{range_with_len}
use Rattle.fixed_span.specs.declared.ordering.Verdict.{Verdict}
use Rattle.fixed_span.specs.Span.{Ends, add, point}
use Rattle.fixed_span.specs.Verdict.{verdict}
use Rattle.result_lines.specs.declared.line.MatchLine.{MatchLine}
use Rattle.result_lines.specs.declared.tables.EntryLine.{EntryLine}
use Rattle.result_lines.specs.Ranks.{is_greater, is_undecided, rank_of}

-- ---- matches

-- the two ends of a score
pub record IsScoreSpan (span : Ends) : Type 0 where
  pub low : pos 0 ≤ℤ span.lo
  pub ordered : span.lo ≤ℤ span.hi
  pub high : span.hi ≤ℤ pos (10 ^ 30)

-- the places of the entries of each match
abbrev pub pairs_of : List MatchLine → List (ℕ × ℕ)
pairs_of lines = map (λ line. (line.left, line.right)) lines

-- both scores of a match are in range
pub record HasScores (line : MatchLine) : Type 0 where
  pub left : IsScoreSpan line.left_score
  pub right : IsScoreSpan line.right_score

-- the ends of a score that is summed, from -10^33 to 10^33
pub record IsSummable (span : Ends) : Type 0 where
  pub low : neg_ℤ (pos (10 ^ 33)) ≤ℤ span.lo
  pub ordered : span.lo ≤ℤ span.hi
  pub high : span.hi ≤ℤ pos (10 ^ 33)

-- both scores of a match can be summed
pub record AreSummable (line : MatchLine) : Type 0 where
  pub left : IsSummable line.left_score
  pub right : IsSummable line.right_score

-- ---- entries

-- what a match adds to the total of an entry: its own span, of a match with itself the left one, and nothing where it takes no part
abbrev pub own_score : ℕ → MatchLine → Ends
own_score i line = if line.left == i then line.left_score else if line.right == i then line.right_score else point (pos 0)

-- the total of an entry
abbrev pub total_of : ℕ → List MatchLine → Ends
total_of i [] = point (pos 0)
total_of i (line ∷ lines) = add (own_score i line) (total_of i lines)

-- the entry meets another one
abbrev pub meets_another : ℕ → MatchLine → Bool
meets_another i line = (line.left == i || line.right == i) && not (line.left == line.right)

-- the verdict of its own span and the other one
abbrev pub own_verdict : ℕ → MatchLine → Verdict
own_verdict i line = if line.left == i then verdict line.left_score line.right_score else verdict line.right_score line.left_score

abbrev pub wins_match : ℕ → MatchLine → Bool
wins_match i line = meets_another i line && is_greater (own_verdict i line)

abbrev pub leaves_undecided : ℕ → MatchLine → Bool
leaves_undecided i line = meets_another i line && is_undecided (own_verdict i line)

-- the matches with others that an entry wins
abbrev pub wins_of : ℕ → List MatchLine → ℕ
wins_of i lines = count_by (wins_match i) lines

-- the matches with others that are undecided
abbrev pub undecided_of : ℕ → List MatchLine → ℕ
undecided_of i lines = count_by (leaves_undecided i) lines

-- the totals of so many entries
abbrev pub totals_of : ℕ → List MatchLine → List Ends
totals_of count lines = map (λ i. total_of i lines) (range_with_len 0 count)

-- the line of one of so many entries
abbrev pub entry_of : ℕ → List MatchLine → ℕ → EntryLine
entry_of count lines i = record {
  total = total_of i lines;
  rank = rank_of (totals_of count lines) i;
  wins = wins_of i lines;
  undecided = undecided_of i lines;
}

-- a line for each of so many entries
abbrev pub entries_of : ℕ → List MatchLine → List EntryLine
entries_of count lines = map (entry_of count lines) (range_with_len 0 count)
