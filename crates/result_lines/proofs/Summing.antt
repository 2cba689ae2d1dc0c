-- Sums over the lines of matches.
use Rattle.std.proofs.Common.{◌≡◌, ℕ, suc, ◌+◌, ◌*◌, ◌^◌, ◌≤◌, ◌<◌, Bool, true, false, if◌then◌else◌, List, ◌∷◌, length, drop, get_or, ℤ, pos, neg_ℤ, ◌≤ℤ◌, sym, ◌∙◌, ap, subst, add-one, drop-cons, arith}
use Rattle.std.specs.List.{All}
use Rattle.std.proofs.lemmas.Int.{ints}
use Rattle.std.proofs.lemmas.List.FromFn.{length-map-range_with_len, get_or-map-range_with_len}
use Rattle.fixed_span.specs.Span.{Ends, IsSmall, add, point}
use Rattle.result_lines.specs.declared.line.MatchLine.{MatchLine}
use Rattle.result_lines.specs.declared.tables.EntryLine.{EntryLine}
use Rattle.result_lines.specs.declared.ranking.Rank.{Rank}
use Rattle.result_lines.specs.Lowered.{IsRaised}
use Rattle.result_lines.specs.Totals.{IsScoreSpan, AreSummable, HasScores, IsSummable, entry_of, own_score, total_of, totals_of, undecided_of, wins_of}
use Rattle.result_lines.specs.Ranks.{rank_of}

-- ---- totals

-- the sum of the first k matches; each adds at most 10^33
pub record IsSummed (i : ℕ) (lines : List MatchLine) (k : ℕ) (sum : Ends) : Type 0 where
  pub total : add sum (total_of i (drop k lines)) ≡ total_of i lines
  pub low : neg_ℤ (pos (k * 10 ^ 33)) ≤ℤ sum.lo
  pub ordered : sum.lo ≤ℤ sum.hi
  pub high : sum.hi ≤ℤ pos (k * 10 ^ 33)

abbrev ends : ℤ → ℤ → Ends
ends lo hi = record { lo = lo; hi = hi }

same_ends : (a b c d : ℤ) → a ≡ c → b ≡ d → ends a b ≡ ends c d
same_ends a b c d low high = ap (λ x. ends x b) low ∙ ap (λ x. ends c x) high

pub add_regrouped : (a b c : Ends) → add (add a b) c ≡ add a (add b c)
add_regrouped a b c = same_ends _ _ _ _ (omega (arith, ints)) (omega (arith, ints))

score_by : (left right : Bool) (line : MatchLine) → AreSummable line
    → IsSummable (if left then line.left_score else if right then line.right_score else point (pos 0))
score_by true right line h = h.left
score_by false true line h = h.right
score_by false false line h = record { low = omega (arith, ints); ordered = omega (arith, ints); high = omega (arith, ints) }

own_in_range : (i : ℕ) (line : MatchLine) → AreSummable line → IsSummable (own_score i line)
own_in_range i line h = score_by _ _ line h

-- the own score in one of the matches
pub own_summable : (i k : ℕ) (lines : List MatchLine) (line : MatchLine) (own : Ends) → k < length lines → All AreSummable lines
    → line ≡ get_or lines k line → own ≡ own_score i line → IsSummable own
own_summable i k lines line own inside scores read is =
    let here : AreSummable line = let P : MatchLine → Type 0 = λ l. AreSummable l in subst P (sym read) (scores k line inside) in
    let P : Ends → Type 0 = λ s. IsSummable s in subst P (sym is) (own_in_range i line here)

-- sums of few matches are small
pub sum_small : (i k : ℕ) (lines : List MatchLine) (sum own : Ends) → k < length lines → length lines ≤ 4096 → IsSummable own
    → IsSummed i lines k sum → IsSmall (add sum own)
sum_small i k lines sum own inside few in_range so_far = record {
  low = omega (arith, ints, inside, few, so_far.low, in_range.low);
  high = omega (arith, ints, inside, few, so_far.high, in_range.high);
}

-- one match more
pub summed_more : (i k : ℕ) (lines : List MatchLine) (line : MatchLine) (sum own next : Ends) → k < length lines → All AreSummable lines
    → line ≡ get_or lines k line → own ≡ own_score i line → next ≡ add sum own → IsSummed i lines k sum → IsSummed i lines (k + 1) next
summed_more i k lines line sum own next inside scores read is added so_far =
    let in_range = own_summable i k lines line own inside scores read is in
    let cut : drop k lines ≡ line ∷ drop (k + 1) lines =
    drop-cons lines k line inside ∙ ap (λ l. l ∷ drop (suc k) lines) (sym read) ∙ ap (λ n. line ∷ drop n lines) (sym (add-one k)) in
    let rest = total_of i (drop (k + 1) lines) in
    let Q : Ends → Type 0 = λ s. IsSummed i lines (k + 1) s in
    subst Q (sym added)
    (record {
      total = add_regrouped sum own rest
          ∙ ap (λ s. add sum (add s rest)) is
          ∙ ap (λ ls. add sum (total_of i ls)) (sym cut)
          ∙ so_far.total;
      low = omega (arith, ints, so_far.low, in_range.low);
      ordered = omega (arith, ints, so_far.ordered, in_range.ordered);
      high = omega (arith, ints, so_far.high, in_range.high);
    })

-- scores of matches can be summed
summable : (span : Ends) → IsScoreSpan span → IsSummable span
summable span h = record { low = omega (arith, ints, h.low); ordered = h.ordered; high = omega (arith, ints, h.high) }

pub all_summable : (lines : List MatchLine) → All HasScores lines → All AreSummable lines
all_summable lines all k d h = let line = get_or lines k d in record { left = summable line.left_score (all k d h).left; right = summable line.right_score (all k d h).right }

pub raised_summable : (lines : List MatchLine) → All IsRaised lines → All AreSummable lines
raised_summable lines all = all_summable lines (λ k d h. (all k d h).scores)

-- ---- entries

-- the total of an entry among those of all
pub total_read : (count i : ℕ) (lines : List MatchLine) (spans : List Ends) (span : Ends) → spans ≡ totals_of count lines → i < count
    → span ≡ get_or spans i span → span ≡ total_of i lines
total_read count i lines spans span are inside read =
    read ∙ ap (λ ss. get_or ss i span) are ∙ get_or-map-range_with_len (λ j. total_of j lines) 0 count i i span inside (omega arith)

pub as_many : (count : ℕ) (lines : List MatchLine) (spans : List Ends) → spans ≡ totals_of count lines → length spans ≡ count
as_many count lines spans are = ap length are ∙ length-map-range_with_len (λ j. total_of j lines) 0 count

abbrev pub entry : Ends → Rank → ℕ → ℕ → EntryLine
entry total rank wins undecided = record { total = total; rank = rank; wins = wins; undecided = undecided }

pub entry_is : (count i : ℕ) (lines : List MatchLine) (spans : List Ends) (total : Ends) (rank : Rank) (wins undecided : ℕ) → spans ≡ totals_of count lines
    → total ≡ total_of i lines → rank ≡ rank_of spans i → wins ≡ wins_of i lines → undecided ≡ undecided_of i lines
    → entry total rank wins undecided ≡ entry_of count lines i
entry_is count i lines spans total rank wins undecided are total_is rank_is wins_is undecided_is =
    ap (λ t. entry t rank wins undecided) total_is
    ∙ ap (λ r. entry (total_of i lines) r wins undecided) (rank_is ∙ ap (λ ss. rank_of ss i) are)
    ∙ ap (λ w. entry (total_of i lines) (rank_of (totals_of count lines) i) w undecided) wins_is
    ∙ ap (λ u. entry (total_of i lines) (rank_of (totals_of count lines) i) (wins_of i lines) u) undecided_is
