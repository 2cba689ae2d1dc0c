-- Lines, totals and ranks of what entrants play are right by the rules of their sheets.
use Rattle.std.proofs.Common.{◌≡◌, ℕ, ◌<◌, List, [], ◌∷◌, length, map, get_or, Option, Some, None, refl, sym, ◌∙◌, ap, subst, arith}
use Rattle.std.specs.List.{All, range_with_len}
use Rattle.std.proofs.lemmas.List.{length-map, get_or-map}
use Rattle.std.proofs.lemmas.List.Elements.{All-head, All-tail}
use Rattle.std.proofs.lemmas.List.FromFn.{get_or-map-range_with_len, get_or-range_with_len, length-range_with_len}
use Rattle.history_model.specs.Game.{Payoffs}
use Rattle.history_model.specs.Path.{match_path}
use Rattle.history_model.specs.declared.tally.Tally.{Tally}
use Rattle.player_core.specs.State.{Lasting}
use Rattle.player_core.specs.Sheet.{IsSheet}
use Rattle.fixed_span.specs.Span.{Ends, Fraction, Holds, score_units}
use Rattle.result_lines.specs.declared.line.MatchLine.{MatchLine}
use Rattle.result_lines.specs.declared.ranking.Rank.TheVariants.{At}
use Rattle.result_lines.specs.Lowered.{lowered}
use Rattle.result_lines.specs.Ranks.{rank_of}
use Rattle.result_lines.specs.Totals.{entry_of, entries_of, pairs_of, total_of, totals_of}
use Rattle.sheet_rules.specs.Entrants.{Entrant, automaton_of_entrant, entrant_at, expects_at, expects_in, no_entrant}
use Rattle.sheet_rules.specs.Laws.{EntrantsFollowTheirRules}
use Rattle.sheet_rules.specs.RightLine.{IsRightScore}
use Rattle.round_robin.specs.Contest.{ArePairs, IsPair, entrant_strategies, no_strategy, strategy_at, strategy_of_entrant}
use Rattle.round_robin.specs.Entries.{AreRightEntries, EntriesAreTrue, IsEntry, IsRightAmong, IsRightEntry, IsTrueByRule, totals_by_rule}
use Rattle.round_robin.specs.Laws.{AreSides}
use Rattle.round_robin.specs.Lowering.{AreLoweredLines, IsLoweredLineBetween, IsScoredLess, IsTrueLoweredTournament, LinesAreLowered, LoweredTournamentsAreTrue, TournamentsAreLowered, expects_less}
use Rattle.round_robin.specs.Totals.{AreLines}
use Rattle.round_robin.specs.Truth.{nothing, own_expected, plus, true_rank, true_total, true_totals}

-- ---- true totals rest on what is expected of pairs that meet

module _ (f g : ℕ → ℕ → Fraction) (count : ℕ) (same : (i j : ℕ) → i < count → j < count → f i j ≡ g i j) where
  same_own : (i : ℕ) (pair : ℕ × ℕ) → i < count → IsPair count pair → own_expected f i pair ≡ own_expected g i pair
  same_own i pair inside is =
      rw (same i pair.1 inside is.inside, same i pair.0 inside (omega (arith, is.ordered, is.inside))) refl

  same_total : (pairs : List (ℕ × ℕ)) (i : ℕ) → i < count → All (IsPair count) pairs → true_total f pairs i ≡ true_total g pairs i
  same_total [] i inside are = refl
  same_total (pair ∷ pairs) i inside are =
      ap (λ x. plus x (true_total f pairs i)) (same_own i pair inside (All-head (IsPair count) pair pairs are))
      ∙ ap (λ x. plus (own_expected g i pair) x) (same_total pairs i inside (All-tail (IsPair count) pair pairs are))

  same_totals_from : (pairs : List (ℕ × ℕ)) → All (IsPair count) pairs → (places : List ℕ) → All (λ i. i < count) places
      → map (true_total f pairs) places ≡ map (true_total g pairs) places
  same_totals_from pairs are [] below = refl
  same_totals_from pairs are (i ∷ is) below =
      ap (λ x. x ∷ map (true_total f pairs) is) (same_total pairs i (All-head (λ j. j < count) i is below) are)
      ∙ ap (λ xs. true_total g pairs i ∷ xs) (same_totals_from pairs are is (All-tail (λ j. j < count) i is below))

  same_totals : (pairs : List (ℕ × ℕ)) → All (IsPair count) pairs → true_totals f pairs count ≡ true_totals g pairs count
  same_totals pairs are = same_totals_from pairs are (range_with_len 0 count) (λ k d inside. below k d inside) where
    below : (k d : ℕ) → k < length (range_with_len 0 count) → get_or (range_with_len 0 count) k d < count
    below k d inside =
        let many = length-range_with_len 0 count in
        let at = get_or-range_with_len 0 count k d (omega (arith, inside, many)) in
        omega (arith, at, inside, many)

-- ---- one line

holds_same : (span : Ends) (x y : Fraction) → x ≡ y → Holds score_units span x → Holds score_units span y
holds_same span x y same holds = rw (← same) holds

module _ (rules : EntrantsFollowTheirRules) (players : List Lasting) (game : Payoffs) (offset : ℕ) where
  module _ (left right : Entrant) (left_valid : IsSheet left.sheet) (right_valid : IsSheet right.sheet)
      (sides : AreSides (automaton_of_entrant players left) left.noise (automaton_of_entrant players right) right.noise) where
    right_score : (line : MatchLine) (tally : Option Tally)
        → IsScoredLess (automaton_of_entrant players left) left.noise (automaton_of_entrant players right) right.noise game offset line.turns line tally
        → IsRightScore players game offset left right line tally
    right_score line (Some tally) played = record {
      sure = played.sure;
      history = match_path (automaton_of_entrant players left) (automaton_of_entrant players right) line.turns;
      by_rules = rules.path players left right line.turns left_valid right_valid sides.left sides.right played.sure;
      plays = played.plays;
      left_score = played.left;
      right_score = played.right;
    }
    right_score line None mixed = record {
      unsure = mixed.unsure;
      left_holds = holds_same line.left_score _ (expects_in players game offset line.turns left right) (rules.expects players game offset line.turns left right left_valid right_valid) mixed.left.holds;
      right_holds = holds_same line.right_score _ (expects_in players game offset line.turns right left) (rules.expects players game offset line.turns right left right_valid left_valid) mixed.right.holds;
      left_width = mixed.left.width;
      right_width = mixed.right.width;
      left_tight = mixed.left.narrow;
      right_tight = mixed.right.narrow;
    }

  -- ---- a tournament

  module _ (turns : ℕ) (entrants : List Entrant) (are : All (IsEntry players) entrants) where
    strategy_there : (place : ℕ) → place < length entrants → strategy_at (entrant_strategies players entrants) place ≡ strategy_of_entrant players (entrant_at entrants place)
    strategy_there place inside = get_or-map (strategy_of_entrant players) entrants place no_entrant no_strategy inside

    expects_there : (i j : ℕ) → i < length entrants → j < length entrants
        → expects_less (entrant_strategies players entrants) game offset turns i j ≡ expects_at players game offset turns entrants i j
    expects_there i j left_inside right_inside =
        let l = strategy_there i left_inside in
        let r = strategy_there j right_inside in
        rw (l, r) (rules.expects players game offset turns (entrant_at entrants i) (entrant_at entrants j)
        (are i no_entrant left_inside).valid (are j no_entrant right_inside).valid)

    -- a line between strategies is right for their entrants
    line_there : (line : MatchLine) → IsPair (length entrants) (line.left, line.right) → IsLoweredLineBetween (entrant_strategies players entrants) game offset turns line
        → IsRightAmong players game offset turns entrants line
    line_there line pair is =
        let left_inside : line.left < length entrants = omega (arith, pair.ordered, pair.inside) in
        let l = strategy_there line.left left_inside in
        let r = strategy_there line.right pair.inside in
        record {
          pair = pair;
          turns_are = is.turns;
          score = right_score (entrant_at entrants line.left) (entrant_at entrants line.right)
              (are line.left no_entrant left_inside).valid (are line.right no_entrant pair.inside).valid (rw (l, r) at is.sides) line line.tally
              (rw (← is.turns) at (rw (l, r) at is.is));
        }

    module _ (true_of : LoweredTournamentsAreTrue) (low_of : TournamentsAreLowered) (pairs : List (ℕ × ℕ)) (are_pairs : ArePairs (length entrants) pairs) (raised : List MatchLine)
        (lines_raised : AreLines (entrant_strategies players entrants) game turns pairs raised) where
      abbrev lines : List MatchLine
      lines = map (lowered offset) raised

      made : AreLoweredLines (entrant_strategies players entrants) game offset turns pairs lines
      made = low_of.lines (entrant_strategies players entrants) game offset turns pairs raised lines_raised

      many : length (entrant_strategies players entrants) ≡ length entrants
      many = length-map entrants (strategy_of_entrant players)

      -- the places of each line are those of a pair
      places_inside : All (λ (line : MatchLine). IsPair (length entrants) (line.left, line.right)) lines
      places_inside k d inside =
          let place : MatchLine → ℕ × ℕ = λ line. (line.left, line.right) in
          let as_many : length (pairs_of lines) ≡ length lines = length-map lines place in
          let P : List (ℕ × ℕ) → Type 0 = λ ps. k < length ps → IsPair (length entrants) (get_or ps k (d.left, d.right)) in
          let there = subst P (sym made.places) (are_pairs.each k (d.left, d.right)) (omega (arith, inside, as_many)) in
          let Q : ℕ × ℕ → Type 0 = λ p. IsPair (length entrants) p in
          subst Q (get_or-map place lines k d (d.left, d.right) inside) there

      truth : IsTrueLoweredTournament (entrant_strategies players entrants) game offset turns pairs lines
      truth =
          let P : ℕ → Type 0 = λ n. ArePairs n pairs in
          true_of (entrant_strategies players entrants) game offset turns pairs raised (subst P (sym many) are_pairs) lines_raised

      totals_there : true_totals (expects_less (entrant_strategies players entrants) game offset turns) pairs (length entrants) ≡ totals_by_rule players game offset turns entrants pairs
      totals_there = same_totals _ _ (length entrants) expects_there pairs are_pairs.each

      -- the line of an entry is right
      right_entry : AreRightEntries (totals_by_rule players game offset turns entrants pairs) (length entrants) (entries_of (length entrants) lines)
      right_entry place none inside =
          let count = length entrants in
          let expects = expects_less (entrant_strategies players entrants) game offset turns in
          let there : get_or (entries_of count lines) place none ≡ entry_of count lines place =
          get_or-map-range_with_len (entry_of count lines) 0 count place place none inside (omega arith) in
          let at : get_or (true_totals expects pairs count) place nothing ≡ true_total expects pairs place =
          get_or-map-range_with_len (true_total expects pairs) 0 count place place nothing inside (omega arith) in
          let Q : Fraction → Type 0 = λ x. Holds score_units (total_of place lines) x in
          let R : ℕ → Type 0 = λ n. (k : ℕ) → rank_of (totals_of n lines) place ≡ At k → true_rank (true_totals expects pairs n) place ≡ k in
          let ranks : R count = subst R many (λ k ranked. truth.ranks place k (omega (arith, inside, many)) ranked) in
          let here : IsRightEntry (true_totals expects pairs count) place (entry_of count lines place) = record {
            total = subst Q (sym at) (truth.totals place);
            rank = ranks;
          } in
          let P : List Fraction → Type 0 = λ totals. IsRightEntry totals place (get_or (entries_of count lines) place none) in
          subst P totals_there (subst (λ entry. IsRightEntry (true_totals expects pairs count) place entry) (sym there) here)

      all_true : IsTrueByRule players game offset turns entrants pairs lines
      all_true = record {
        lines_right = record {
          places = made.places;
          each = λ k d inside. line_there (get_or lines k d) (places_inside k d inside) (made.each k d inside);
        };
        entries_right = right_entry;
      }

pub entries_are : EntrantsFollowTheirRules → LinesAreLowered → LoweredTournamentsAreTrue → TournamentsAreLowered → EntriesAreTrue
entries_are rules low true_of low_of = record {
  line = λ players left right game offset line left_valid right_valid sides is.
      right_score rules players game offset left right left_valid right_valid sides (lowered offset line) line.tally
      (low.line _ left.noise _ right.noise game offset line.turns line sides refl is);
  tournament = λ players game offset turns entrants pairs lines are are_pairs made.
      all_true rules players game offset turns entrants are true_of low_of pairs are_pairs lines made;
}
