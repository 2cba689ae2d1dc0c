-- Lines of matches that are right can be shown.
use Rattle.std.proofs.Common.{◌≡◌, ℕ, ◌+◌, ◌*◌, ◌^◌, ◌≤◌, ◌==◌, List, length, get_or, Option, Some, None, ℤ, pos, neg_ℤ, ◌≤ℤ◌, inl, inr, Result, Ok, Err, IfOk, refl, sym, ◌∙◌, ap, subst, arith}
use Rattle.std.specs.Prelude.{IfSome}
use Rattle.std.specs.List.{All}
use Rattle.std.proofs.lemmas.Int.{ints}
use Rattle.std.proofs.lemmas.Bool.{cases_Bool}
use Rattle.std.proofs.lemmas.Bool.Decides.{Decides-eqb}
use Rattle.std.proofs.Math.Nat.{mul-le-mul}
use Rattle.std.proofs.lemmas.List.{length-map}
use Rattle.history_model.specs.Game.{Payoffs}
use Rattle.history_model.specs.Tally.{total}
use Rattle.history_model.specs.declared.tally.Tally.{Tally}
use Rattle.fixed_span.specs.Span.{Ends, score_units}
use Rattle.result_lines.specs.declared.line.MatchLine.{MatchLine}
use Rattle.result_lines.specs.declared.tables.Totals.{Totals}
use Rattle.result_lines.specs.Totals.{IsScoreSpan, entries_of}
use Rattle.player_core.specs.State.{Lasting}
use Rattle.player_core.specs.Fits.{SidesFit}
use Rattle.sheet_rules.specs.Entrants.{Entrant, entrant_at}
use Rattle.sheet_rules.specs.RightLine.{IsRightLine, IsRightScore}
use Rattle.round_robin.specs.Entries.{AreRightLines, IsInRangeLess, IsScoreLess}
use Rattle.round_robin.specs.Laws.{IsInRange}
use Rattle.report_rules.specs.declared.report.Head.{Head}
use Rattle.report_rules.specs.Valid.{IsHead, IsScore, IsCounted, IsShowable}
use Rattle.report_making.specs.Made.{AreResults}
use Rattle.lab_file.specs.Lab.{LabData, IsLab}
use Rattle.play_commands.specs.RightLine.{head_of_lab}

-- ---- one line

few_units : (offset n : ℕ) → offset ≤ 1000000 → n ≤ 10 ^ 12 → offset * n * score_units ≤ 10 ^ 33
few_units offset n few turns = let points : offset * n ≤ 1000000 * 10 ^ 12 = mul-le-mul few turns in omega (arith, points)

high_enough : (units : ℕ) (low : ℤ) → units ≤ 10 ^ 33 → neg_ℤ (pos units) ≤ℤ low → neg_ℤ (pos (10 ^ 33)) ≤ℤ low
high_enough units low few least = omega (arith, ints, few, least)

none_below : (offset n : ℕ) (low : ℤ) → offset ≡ 0 → neg_ℤ (pos (offset * n * score_units)) ≤ℤ low → pos 0 ≤ℤ low
none_below offset n low none least =
    let P : ℕ → Type 0 = λ o. neg_ℤ (pos (o * n * score_units)) ≤ℤ low in
    let nothing : 0 * n * score_units ≡ 0 = omega arith in
    let Q : ℕ → Type 0 = λ u. neg_ℤ (pos u) ≤ℤ low in
    let here : Q 0 = subst Q nothing (subst P none least) in omega (arith, ints, here)

score_shown : (head : Head) → IsHead head → (n : ℕ) (span : Ends) → n ≤ 10 ^ 12 → IsScoreLess head.offset n span → IsScore head.version span
score_shown head valid n span few is = record {
  low = elim (cases_Bool (head.version == 1)) [
    | inl first ↦ rw first (none_below head.offset n span.lo (valid.first ((Decides-eqb head.version 1).0 first)) is.low)
    | inr second ↦ rw second (high_enough (head.offset * n * score_units) span.lo (few_units head.offset n valid.raised.few few) is.low)
  ];
  ordered = is.ordered;
  high = omega (arith, ints, is.high);
}

-- scores of a game without an offset
raised_score : (n : ℕ) (span : Ends) → IsScoreLess 0 n span → IsScoreSpan span
raised_score n span is = record { low = none_below 0 n span.lo refl is.low; ordered = is.ordered; high = is.high }

pub raised_ranges : (n : ℕ) (lines : List MatchLine) → All (IsInRangeLess 0 n) lines → All (IsInRange n) lines
raised_ranges n lines ranges k d inside =
    let is = ranges k d inside in
    record { left = raised_score n (get_or lines k d).left_score is.left; right = raised_score n (get_or lines k d).right_score is.right; counted = is.counted }

counts_shown : (players : List Lasting) (head : Head) (left right : Entrant) (n : ℕ) (line : MatchLine) (tally : Option Tally)
    → line.turns ≡ n → IfSome tally (λ t. total t ≡ n) → IsRightScore players head.game head.offset left right line tally → IfSome tally (IsCounted head line)
counts_shown players head left right n line (Some tally) turns counted played = record {
  turns = counted ∙ sym turns;
  left = played.left_score;
  right = played.right_score;
}
counts_shown players head left right n line None turns counted mixed = tt

line_shown : (players : List Lasting) (head : Head) (left right : Entrant) (n : ℕ) (line : MatchLine) → IsHead head → 1 ≤ n → n ≤ 10 ^ 12
    → line.turns ≡ n → IsInRangeLess head.offset n line → IsRightLine players head.game head.offset left right line → IsShowable head line
line_shown players head left right n line valid some few turns range is = record {
  some_turns = omega (arith, turns, some);
  few_turns = omega (arith, turns, few);
  left = score_shown head valid n line.left_score few range.left;
  right = score_shown head valid n line.right_score few range.right;
  counts = counts_shown players head left right n line line.tally turns range.counted is;
}

-- a lab's head can be shown
pub head_shown : (lab : LabData) → IsLab lab → IsHead (head_of_lab lab)
head_shown lab valid = record {
  some = elim valid.version [ inl first ↦ omega (arith, first) | inr second ↦ omega (arith, second) ];
  known = elim valid.version [ inl first ↦ omega (arith, first) | inr second ↦ omega (arith, second) ];
  first = valid.unraised;
  raised = record { few = valid.offset.few; least = valid.offset.least };
}

-- what is so with a game and an offset that are the lab's
of_lab : (P : Payoffs → ℕ → Type 0) (game read : Payoffs) (offset by : ℕ) → read ≡ game → by ≡ offset → P read by → P game offset
of_lab P game read offset by same less here = subst (P game) less (subst (λ g. P g by) same here)

-- the line of a match of the lab
pub line_showable : {E : Type 0} (players on_the_right : List Lasting) → SidesFit players on_the_right → (lab : LabData) → IsLab lab → (read : Payoffs) (by : ℕ) (left right : Entrant) (n : ℕ) (made : Result MatchLine E)
    → read ≡ lab.game → by ≡ lab.offset → 1 ≤ n → n ≤ 10 ^ 12 → IfOk made (λ line. line.turns ≡ n) → IfOk made (IsInRangeLess by n) → IfOk made (IsRightLine players read by left right)
    → IfOk made (IsShowable (head_of_lab lab))
line_showable players on_the_right fits lab valid read by left right n (Ok line) same less some few turns range is =
    line_shown players (head_of_lab lab) left right n line (head_shown lab valid) some few turns
    (subst (λ o. IsInRangeLess o n line) less range) (of_lab (λ g o. IsRightLine players g o left right line) lab.game read lab.offset by same less is)
line_showable players on_the_right fits lab valid read by left right n (Err error) same less some few turns range is = tt

-- ---- all lines

-- the results of a tournament can be shown
pub results_shown : (players on_the_right : List Lasting) → SidesFit players on_the_right → (lab : LabData) → IsLab lab → (entrants : List Entrant) (read : Payoffs) (by n count : ℕ) (pairs others : List (ℕ × ℕ)) (results : Totals)
    → read ≡ lab.game → by ≡ lab.offset → 1 ≤ n → n ≤ 10 ^ 12 → count ≤ 64 → length entrants ≡ count → 2 * length others ≤ count * (count + 1) → pairs ≡ others
    → AreRightLines players read by n entrants pairs results.matches → All (IsInRangeLess by n) results.matches → results.entries ≡ entries_of (length entrants) results.matches
    → AreResults count (head_of_lab lab) results
results_shown players on_the_right fits lab valid entrants read by n count pairs others results same_game less some few few_entries as_entrants many same made range entries =
    let place : MatchLine → ℕ × ℕ = λ line. (line.left, line.right) in
    let as_many : length results.matches ≡ length others = sym (length-map results.matches place) ∙ ap length made.places ∙ ap length same in
    record {
      few_matches = few_of count (length others) (length results.matches) few_entries many as_many;
      playable = λ k d within.
          let line = get_or results.matches k d in
          let is = made.each k d within in
          record {
            left = omega (arith, is.pair.ordered, is.pair.inside, as_entrants);
            right = omega (arith, is.pair.inside, as_entrants);
            showable = line_shown players (head_of_lab lab) (entrant_at entrants line.left) (entrant_at entrants line.right) n line (head_shown lab valid) some few is.turns_are
                (subst (λ o. IsInRangeLess o n line) less (range k d within))
                (of_lab (λ g o. IsRightLine players g o (entrant_at entrants line.left) (entrant_at entrants line.right) line) lab.game read lab.offset by same_game less is.score);
          };
      entries = entries ∙ ap (λ m. entries_of m results.matches) as_entrants;
    } where
      few_of : (count pairs matches : ℕ) → count ≤ 64 → 2 * pairs ≤ count * (count + 1) → matches ≡ pairs → matches ≤ 2080
      few_of count pairs matches few_entries many as_many =
          let more : count + 1 ≤ 65 = omega (arith, few_entries) in
          let top : count * (count + 1) ≤ 64 * 65 = mul-le-mul few_entries more in
          omega (arith, top, many, as_many)
