-- The line of a match, and which line may follow which in the report of one match.
use Rattle.std.specs.Prelude.{ℕ, ◌&&◌, ◌||◌, ◌==◌, Bool, true, false, not, pos, int_le, List, Option, Some, None}
use Rattle.std.specs.Ordering.{int_eq}
use Rattle.history_model.specs.declared.tally.Tally.{Tally}
use Rattle.history_model.specs.Tally.{left_points, right_points}
use Rattle.fixed_span.specs.Span.{Ends}
use Rattle.result_lines.specs.declared.line.MatchLine.{MatchLine}
use Rattle.report_lines.specs.declared.line.ShownMatch.{ShownMatch}
use Rattle.report_lines.specs.declared.line.Line.{Line}
use Rattle.report_lines.specs.declared.line.Line.TheVariants as lines
use Rattle.report_names.specs.declared.own.OwnNoises.{OwnNoises}
use Rattle.report_rules.specs.declared.report.Body.TheVariants as bodies
use Rattle.report_rules.specs.declared.report.Head.{Head}
use Rattle.report_rules.specs.declared.state.BodySoFar.TheVariants as parts
use Rattle.report_rules.specs.declared.state.State.{State}
use Rattle.report_rules.specs.declared.state.State.TheVariants as states
use Rattle.report_names.specs.Names.{place_in, with_name}
use Rattle.report_rules.specs.Valid.{paid}

-- a score may be shown as low in this version
abbrev pub is_shown : ℕ → Ends → Bool
is_shown version score = not (version == 1) || int_le (pos 0) score.lo

-- two scores have the same ends
abbrev pub same_ends : Ends → Ends → Bool
same_ends a b = int_eq a.lo b.lo && int_eq a.hi b.hi

-- the scores are what the counts are paid
abbrev pub pays : Head → Ends → Ends → ℕ → Option Tally → Bool
pays head left right turns None = true
pays head left right turns (Some tally) =
    same_ends left (paid head.offset turns (left_points head.game tally)) && same_ends right (paid head.offset turns (right_points head.game tally))

-- the scores may stand in this version, and are what the counts are paid
abbrev pub is_scored : Head → ShownMatch → Bool
is_scored head m =
    (is_shown head.version m.left_score && is_shown head.version m.right_score) && pays head m.left_score m.right_score m.turns m.tally

-- the match with places in place of its names, of which those that are new come behind all others
abbrev pub placed_match : List (List ℕ) → ShownMatch → MatchLine
placed_match names m = record {
  left = place_in (with_name names m.left) m.left;
  right = place_in (with_name (with_name names m.left) m.right) m.right;
  turns = m.turns;
  left_score = m.left_score;
  right_score = m.right_score;
  tally = m.tally;
}

-- the names with those of a match that are new
abbrev pub names_with_match : List (List ℕ) → ShownMatch → List (List ℕ)
names_with_match names m = with_name (with_name names m.left) m.right

-- one match: its line, and then the end
abbrev pub match_allows : Head → Option MatchLine → Line → Bool
match_allows head None (lines.Match m) = is_scored head m
match_allows head (Some line) lines.End = true
match_allows _ _ _ = false

-- what a line behind that of a match leaves, or behind none yet
abbrev pub after_match : Head → OwnNoises → List (List ℕ) → Option MatchLine → Line → State
after_match head own names None (lines.Match m) =
    states.InBody head own (names_with_match names m) (parts.Match (Some (placed_match names m)))
after_match head own names (Some line) lines.End = states.Ended head own.noises names (bodies.Match line)
after_match head own names line _ = states.InBody head own names (parts.Match line)
