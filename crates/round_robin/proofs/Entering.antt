-- Entrants on a bench: what is so of what they play, before and after the bench was asked.
use Rattle.std.proofs.Common.{◌≡◌, ◌↔◌, ◌⊎◌, inl, inr, ℕ, ◌*◌, ◌^◌, ◌<◌, ◌≤◌, Bool, true, IsTrue, List, [], ◌∷◌, length, map, get_or, pos, neg_ℤ, ◌-ℤ◌, ◌≤ℤ◌, Result, Ok, Err, IfOk, refl, sym, ◌∙◌, ap, subst, arith}
use Rattle.std.specs.List.{All}
use Rattle.std.proofs.lemmas.Int.{ints}
use Rattle.std.proofs.lemmas.List.{length-map, get_or-map}
use Rattle.std.proofs.lemmas.List.Elements.{All-map}
use Rattle.std.proofs.lemmas.List.FromFn.{length-map-range_with_len}
use Rattle.fixed_span.specs.Span.{Ends, score_units}
use Rattle.fixed_span.specs.Lowered as spans
use Rattle.history_model.specs.Automaton.{Automaton, IsAutomaton}
use Rattle.history_model.specs.Expectation.{ChooseAlike, player}
use Rattle.history_model.specs.Game.{Payoffs, IsGame}
use Rattle.player_core.specs.State.{BenchState, Lasting, lasting_of, players_of}
use Rattle.player_core.specs.Sheet.{SheetData}
use Rattle.player_core.specs.Fits.{Fits, SidesFit}
use Rattle.player_core.specs.Bench.{KeepsBench, SameTurns}
use Rattle.player_core.specs.Entry.{entry_automaton}
use Rattle.player_core.specs.Laws.{EntriesPlay}
use Rattle.product_chain.specs.Expected.{IsSureMatch}
use Rattle.result_lines.specs.declared.line.MatchLine.{MatchLine}
use Rattle.sheet_rules.specs.declared.contestant.Contestant.{Contestant}
use Rattle.sheet_rules.specs.Entrants.{Entrant, automaton_of_entrant, entrant_of, entrants_of, no_entrant, rule_player}
use Rattle.sheet_rules.specs.Laws.{EntrantsFollowTheirRules}
use Rattle.sheet_rules.specs.RightLine.{IsRightLine}
use Rattle.match_play.specs.Known.{IsKnown}
use Rattle.result_lines.specs.declared.tables.EntryLine.{EntryLine}
use Rattle.result_lines.specs.declared.tables.Totals.{Totals}
use Rattle.result_lines.specs.Lowered.{CanBeLowered, IsRaised, lowered}
use Rattle.result_lines.specs.Totals.{IsScoreSpan, entries_of, entry_of, pairs_of}
use Rattle.round_robin.specs.OnBench.{AreAskedOn, AtMostForOn}
use Rattle.round_robin.specs.Asked.{AreAsked, AtMostTurns, IsAsked, Turns, bench_turns, most_advances, most_for}
use Rattle.round_robin.specs.Contest.{AreContestants, AreFewTurns, ArePairs, IsShort, IsSureStrategy, Strategy, entrant_strategies, no_strategy, strategies_of, strategy_of, strategy_of_entrant}
use Rattle.round_robin.specs.Entries.{AreEntries, EntriesAreTrue, EntriesAskedOn, EntriesAtMostOn, EntryAskedOn, EntryAtMostOn, IsEntry, IsGridOf, IsInRangeLess, IsScoreLess, IsShortPair, IsTrueByRule}
use Rattle.round_robin.specs.Laws.{AreSides, IsInRange, LinesHold}
use Rattle.round_robin.specs.Line.{IsLineOf}
use Rattle.round_robin.specs.Totals.{AreLines}
use Rattle.round_robin.proofs.Contesting.{known_kept}
use Rattle.round_robin.proofs.Counting.{lines_few}

-- ---- one match

-- it has at most 10^12 turns
pub short_turns : (a b : Strategy) (turns : ℕ) → IsShort a b turns → turns ≤ 10 ^ 12
short_turns a b turns short = elim (split turns) as (λ _. turns ≤ 10 ^ 12) [
  | inl few ↦ few
  | inr many ↦
      let mixed = short.unsure (λ sure. let few = short.sure sure in absurd (omega (arith, few, many))) in
      omega (arith, mixed)
]
  where
    split : (n : ℕ) → (n ≤ 10 ^ 12) ⊎ (10 ^ 12 < n)
    split n = grind arith

-- where the one is sure, both are where the other is
pub both_when : (a b : Strategy) (left right : Bool) → IsTrue left ↔ IsSureStrategy a → IsTrue right ↔ IsSureStrategy b → left ≡ true
    → IsTrue right ↔ IsSureMatch a.automaton a.noise b.automaton b.noise
both_when a b left right l r is = (
  (λ t. let x = l.0 is in let y = r.0 t in record { left = x.automaton; left_still = x.still; right = y.automaton; right_still = y.still }),
  (λ s. r.1 (record { automaton = s.right; still = s.right_still })),
)

module _ (law : EntriesPlay) (old mid : BenchState) (kept : KeepsBench old mid) (fits : Fits old) where
  -- an entrant plays what it played
  pub same_automaton : (sheet : SheetData) → entry_automaton (players_of mid) sheet ≡ entry_automaton (players_of old) sheet
  same_automaton sheet = law.kept (lasting_of old.left) (lasting_of old.right) (lasting_of mid.left) sheet fits kept.left_kept

  pub entry_kept : (entrant : Entrant) → IsEntry (players_of old) entrant → IsEntry (players_of mid) entrant
  entry_kept entrant is = record { valid = is.valid; known = known_kept (lasting_of old.left) (lasting_of mid.left) entrant.sheet kept.left_kept is.known }

  pub strategy_before : (entrant : Entrant) (P : Strategy → Type 0) → P (strategy_of_entrant (players_of mid) entrant) → P (strategy_of_entrant (players_of old) entrant)
  strategy_before entrant P after = subst (λ (a : Automaton). P (record { automaton = a; noise = entrant.noise })) (same_automaton entrant.sheet) after

  -- what is so of what two sheets play is so before and after
  pub before : (left right : SheetData) (P : Automaton → Automaton → Type 0) → P (entry_automaton (players_of mid) left) (entry_automaton (players_of mid) right)
      → P (entry_automaton (players_of old) left) (entry_automaton (players_of old) right)
  before left right P after =
      subst (P (entry_automaton (players_of old) left)) (same_automaton right)
      (subst (λ a. P a (entry_automaton (players_of mid) right)) (same_automaton left) after)

  -- the line of a match on the bench that was asked
  pub right_line : EntriesAreTrue → (left right : Entrant) (game : Payoffs) (offset turns : ℕ) (line : MatchLine) → IsEntry (players_of old) left → IsEntry (players_of old) right → line.turns ≡ turns
      → AreSides (entry_automaton (players_of mid) left.sheet) left.noise (entry_automaton (players_of mid) right.sheet) right.noise
      → IsLineOf (entry_automaton (players_of mid) left.sheet) left.noise (entry_automaton (players_of mid) right.sheet) right.noise game turns line
      → IsRightLine (players_of old) game offset left right (lowered offset line)
  right_line true_of left right game offset turns line left_is right_is turns_are sides is =
      let there : IsLineOf (entry_automaton (players_of mid) left.sheet) left.noise (entry_automaton (players_of mid) right.sheet) right.noise game line.turns line = rw (← turns_are) at is in
      true_of.line (players_of old) left right game offset line left_is.valid right_is.valid
      (before left.sheet right.sheet (λ a b. AreSides a left.noise b right.noise) sides)
      (before left.sheet right.sheet (λ a b. IsLineOf a left.noise b right.noise game line.turns line) there)

  pub made_right : (game : Payoffs) (offset : ℕ) (left right : Entrant) (line made : MatchLine) → made ≡ lowered offset line
      → IsRightLine (players_of old) game offset left right (lowered offset line) → IsRightLine (players_of old) game offset left right made
  made_right game offset left right line made same is = subst (IsRightLine (players_of old) game offset left right) (sym same) is

  -- what was asked behind questions that advance nobody
  module _ (still : SameTurns old mid) where
    same_turns : bench_turns mid ≡ bench_turns old
    same_turns = rw (still.left, still.right) refl

    pub asked_before : (new : BenchState) (left right : Entrant) (turns : ℕ)
        → IsAsked (entry_automaton (players_of mid) left.sheet) left.noise (entry_automaton (players_of mid) right.sheet) right.noise turns (bench_turns mid) (bench_turns new)
        → EntryAskedOn old new left right turns
    asked_before new left right turns asked =
        let P : Turns → Type 0 = λ t.
        IsAsked (entry_automaton (players_of old) left.sheet) left.noise (entry_automaton (players_of old) right.sheet) right.noise turns t (bench_turns new) in
        subst P same_turns (before left.sheet right.sheet (λ a b. IsAsked a left.noise b right.noise turns (bench_turns mid) (bench_turns new)) asked)

    pub most_before : (new : BenchState) (left right : Entrant)
        → AtMostTurns (most_advances (entry_automaton (players_of mid) left.sheet) (entry_automaton (players_of mid) right.sheet)) (bench_turns mid) (bench_turns new)
        → EntryAtMostOn old new left right
    most_before new left right most =
        let P : Turns → Type 0 = λ t.
        AtMostTurns (most_advances (entry_automaton (players_of old) left.sheet) (entry_automaton (players_of old) right.sheet)) t (bench_turns new) in
        subst P same_turns (before left.sheet right.sheet (λ a b. AtMostTurns (most_advances a b) (bench_turns mid) (bench_turns new)) most)

-- ---- ranges

low_less : (units : ℕ) (span : Ends) → IsScoreSpan span → neg_ℤ (pos units) ≤ℤ (span.lo -ℤ pos units)
low_less units span is = omega (arith, ints, is.low)

ordered_less : (units : ℕ) (span : Ends) → IsScoreSpan span → (span.lo -ℤ pos units) ≤ℤ (span.hi -ℤ pos units)
ordered_less units span is = omega (arith, ints, is.ordered)

high_less : (units : ℕ) (span : Ends) → IsScoreSpan span → (span.hi -ℤ pos units) ≤ℤ pos (10 ^ 30)
high_less units span is = omega (arith, ints, is.high)

score_less : (offset n : ℕ) (span : Ends) → IsScoreSpan span → IsScoreLess offset n (spans.lowered (offset * n * score_units) span)
score_less offset n span is = record {
  low = low_less (offset * n * score_units) span is;
  ordered = ordered_less (offset * n * score_units) span is;
  high = high_less (offset * n * score_units) span is;
}

-- a line in range is so where it is lowered
pub in_range_less : (offset n : ℕ) (line : MatchLine) → line.turns ≡ n → IsInRange n line → IsInRangeLess offset n (lowered offset line)
in_range_less offset n line turns is =
    let P : Ends → ℕ → Type 0 = λ span t. IsScoreLess offset n (spans.lowered (offset * t * score_units) span) in
    record {
      left = subst (P line.left_score) (sym turns) (score_less offset n line.left_score is.left);
      right = subst (P line.right_score) (sym turns) (score_less offset n line.right_score is.right);
      counted = is.counted;
    }

-- of a line that was made so
pub made_in_range : (offset n : ℕ) (line made : MatchLine) → made ≡ lowered offset line → line.turns ≡ n → IsInRange n line → IsInRangeLess offset n made
made_in_range offset n line made same turns is = subst (IsInRangeLess offset n) (sym same) (in_range_less offset n line turns is)

-- it can be lowered
pub is_raised : (n : ℕ) (line : MatchLine) → line.turns ≡ n → n ≤ 10 ^ 12 → IsInRange n line → IsRaised line
is_raised n line turns few is = record { scores = record { left = is.left; right = is.right }; turns = omega (arith, turns, few) }

-- ---- a tournament

pub same_strategies : (players : List Lasting) (contestants : List Contestant) → strategies_of players contestants ≡ entrant_strategies players (entrants_of contestants)
same_strategies players [] = refl
same_strategies players (c ∷ cs) = ap (λ (rest : List Strategy). strategy_of players c ∷ rest) (same_strategies players cs)

module _ (players : List Lasting) (contestants : List Contestant) where
  pub as_entrants : (P : List Strategy → Type 0) → P (strategies_of players contestants) → P (entrant_strategies players (entrants_of contestants))
  as_entrants P here = subst P (same_strategies players contestants) here

  pub many_contestants : length contestants ≡ length (entrants_of contestants)
  many_contestants = sym (length-map contestants entrant_of)

  pub are_contestants : AreEntries players (entrants_of contestants) → AreContestants players contestants
  are_contestants are = record {
    some = omega (arith, are.some, many_contestants);
    few = omega (arith, are.few, many_contestants);
    each = λ k c inside.
        let P : Entrant → Type 0 = λ e. IsKnown players e.sheet in
        subst P (get_or-map entrant_of contestants k c (entrant_of c) inside) (are.each k (entrant_of c) (omega (arith, inside, many_contestants))).known;
  }

pub asked_entrants : (old new : BenchState) (contestants : List Contestant) (turns : ℕ) (pairs : List (ℕ × ℕ))
    → AreAskedOn old new contestants turns pairs → EntriesAskedOn old new (entrants_of contestants) turns pairs
asked_entrants old new contestants turns pairs asked =
    as_entrants (players_of old) contestants (λ ss. AreAsked ss turns pairs (bench_turns old) (bench_turns new)) asked

pub most_entrants : (old new : BenchState) (contestants : List Contestant) (pairs : List (ℕ × ℕ))
    → AtMostForOn old new contestants pairs → EntriesAtMostOn old new (entrants_of contestants) pairs
most_entrants old new contestants pairs most =
    as_entrants (players_of old) contestants (λ ss. AtMostTurns (most_for ss pairs) (bench_turns old) (bench_turns new)) most

-- the lines are right, and so are the entries that are made of them
pub true_totals : EntriesAreTrue → (players : List Lasting) (contestants : List Contestant) (game : Payoffs) (offset turns : ℕ) (pairs : List (ℕ × ℕ)) (lines : List MatchLine)
    → AreEntries players (entrants_of contestants) → ArePairs (length (entrants_of contestants)) pairs → AreLines (strategies_of players contestants) game turns pairs lines
    → IsTrueByRule players game offset turns (entrants_of contestants) pairs (map (lowered offset) lines)
true_totals true_of players contestants game offset turns pairs lines are are_pairs made =
    true_of.tournament players game offset turns (entrants_of contestants) pairs lines are.each are_pairs
    (as_entrants players contestants (λ ss. AreLines ss game turns pairs lines) made)

-- entries of as many as there are contestants
pub of_entrants : (contestants : List Contestant) (results : Totals) → results.entries ≡ entries_of (length contestants) results.matches
    → results.entries ≡ entries_of (length (entrants_of contestants)) results.matches
of_entrants contestants results entries = entries ∙ ap (λ n. entries_of n results.matches) (sym (length-map contestants entrant_of))

-- what holds whatever the answer
pub whatever : {T E : Type 0} (made : Result T E) (P : Type 0) → P → IfOk made (λ _. P)
whatever (Ok value) P here = here
whatever (Err error) P here = tt

-- what is told of lowered lines and of the entries that are made of them
pub right_lines : {E : Type 0} (offset : ℕ) (raised : List MatchLine) (P : List MatchLine → Type 0) (made : Result Totals E)
    → IfOk made (λ totals. totals.matches ≡ map (lowered offset) raised) → P (map (lowered offset) raised) → IfOk made (λ totals. P totals.matches)
right_lines offset raised P (Ok totals) same here = subst P (sym same) here
right_lines offset raised P (Err error) same here = tt

pub right_entries : {E : Type 0} (offset count : ℕ) (raised : List MatchLine) (P : List EntryLine → Type 0) (made : Result Totals E)
    → IfOk made (λ totals. totals.matches ≡ map (lowered offset) raised) → IfOk made (λ totals. totals.entries ≡ entries_of count totals.matches)
    → P (entries_of count (map (lowered offset) raised)) → IfOk made (λ totals. P totals.entries)
right_entries offset count raised P (Ok totals) same entries here = subst P (sym (entries ∙ ap (entries_of count) same)) here
right_entries offset count raised P (Err error) same entries here = tt

pub few_turns_of : (players right : List Lasting) → SidesFit players right → (contestants : List Contestant) (turns : ℕ) (pairs : List (ℕ × ℕ)) → ArePairs (length (entrants_of contestants)) pairs
    → All (IsShortPair players (entrants_of contestants) turns) pairs → All (AreFewTurns (strategies_of players contestants) turns) pairs
few_turns_of players right fits contestants turns pairs are few k d inside =
    let pair : ℕ × ℕ = get_or pairs k d in
    let is = are.each k d inside in
    let l = get_or-map (strategy_of_entrant players) (entrants_of contestants) pair.0 no_entrant no_strategy (omega (arith, is.ordered, is.inside)) in
    let r = get_or-map (strategy_of_entrant players) (entrants_of contestants) pair.1 no_entrant no_strategy is.inside in
    let here : AreFewTurns (entrant_strategies players (entrants_of contestants)) turns pair = rw (l, r) (few k d inside) in
    let P : List Strategy → Type 0 = λ ss. AreFewTurns ss turns pair in subst P (sym (same_strategies players contestants)) here

-- the turns of each match, and its scores, are in range
module _ (law : LinesHold) (players right : List Lasting) (fits : SidesFit players right) (entrants : List Entrant) (strategies : List Strategy) (game : Payoffs) (turns : ℕ) (pairs : List (ℕ × ℕ))
    (lines : List MatchLine) (valid : IsGame game) (few : All (IsShortPair players entrants turns) pairs) (made : AreLines strategies game turns pairs lines) where
  few_at : (k : ℕ) → k < length lines → turns ≤ 10 ^ 12
  few_at k inside =
      let place : MatchLine → ℕ × ℕ = λ line. (line.left, line.right) in
      let as_many : length lines ≡ length pairs = sym (length-map lines place) ∙ ap length made.places in
      short_turns _ _ turns (few k (0, 0) (omega (arith, inside, as_many)))

  range_at : (k : ℕ) (d : MatchLine) → k < length lines → IsInRange turns (get_or lines k d)
  range_at k d inside = let is = made.each k d inside in law.range _ _ _ _ game turns (get_or lines k d) is.sides valid (few_at k inside) is.is

  pub all_in_range : (offset : ℕ) → All (IsInRangeLess offset turns) (map (lowered offset) lines)
  all_in_range offset =
      All-map (IsInRangeLess offset turns) (lowered offset) lines
      (λ k d inside. in_range_less offset turns (get_or lines k d) (made.each k d inside).turns (range_at k d inside))

  pub all_raised : All IsRaised lines
  all_raised k d inside = is_raised turns (get_or lines k d) (made.each k d inside).turns (few_at k inside) (range_at k d inside)

-- the results can be lowered
pub can_be_lowered : (count : ℕ) (pairs : List (ℕ × ℕ)) (results : Totals) → count ≤ 64 → ArePairs count pairs → pairs_of results.matches ≡ pairs
    → results.entries ≡ entries_of count results.matches → All IsRaised results.matches → CanBeLowered results
can_be_lowered count pairs results few are places entries raised = record {
  few = lines_few count pairs results.matches few are places;
  few_entries = omega (arith, few, ap length entries, length-map-range_with_len (entry_of count results.matches) 0 count);
  raised = raised;
}

-- ---- a grid

pub grid_of : EntrantsFollowTheirRules → (players : List Lasting) (entrant : Entrant) (grid : Automaton) → IsEntry players entrant → IsAutomaton (automaton_of_entrant players entrant)
    → grid ≡ automaton_of_entrant players entrant → IsGridOf players entrant grid
grid_of rules players entrant grid is valid same = record {
  valid = subst IsAutomaton (sym same) valid;
  plays = same;
  rule = subst (λ a. ChooseAlike (player a) (rule_player players entrant)) (sym same) (rules.chooses players entrant is.valid);
}
