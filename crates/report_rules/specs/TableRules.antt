-- Which line may follow which in the report of a tournament: match lines, then a line for each entry, and then the end.
use Rattle.std.specs.Prelude.{ℕ, ◌+◌, ◌==◌, ◌&&◌, Bool, true, false, not, nat_lt, nat_le, List, [], ◌∷◌, ◌++◌, length, map, Option, Some, None}
use Rattle.fixed_span.specs.Span.{Ends}
use Rattle.result_lines.specs.declared.line.MatchLine.{MatchLine}
use Rattle.result_lines.specs.declared.ranking.Rank.{Rank}
use Rattle.result_lines.specs.declared.ranking.Rank.TheVariants as ranks
use Rattle.result_lines.specs.declared.tables.EntryLine.{EntryLine}
use Rattle.result_lines.specs.Ranks.{rank_of}
use Rattle.result_lines.specs.Totals.{total_of, wins_of, undecided_of}
use Rattle.report_lines.specs.declared.line.ShownMatch.{ShownMatch}
use Rattle.report_lines.specs.declared.line.ShownEntry.{ShownEntry}
use Rattle.report_lines.specs.declared.line.Line.{Line}
use Rattle.report_lines.specs.declared.line.Line.TheVariants as lines
use Rattle.report_names.specs.declared.own.OwnNoises.{OwnNoises}
use Rattle.report_rules.specs.declared.report.Body.TheVariants as bodies
use Rattle.report_rules.specs.declared.report.Head.{Head}
use Rattle.report_rules.specs.declared.state.BodySoFar.TheVariants as parts
use Rattle.report_rules.specs.declared.state.State.{State}
use Rattle.report_rules.specs.declared.state.State.TheVariants as states
use Rattle.report_rules.specs.declared.table.Table.{Table}
use Rattle.report_rules.specs.MatchRules.{is_scored, same_ends, placed_match, names_with_match}
use Rattle.report_names.specs.Names.{place_in, with_name}
use Rattle.report_names.specs.Places.{is_listed, are_listed}

-- ---- the line of an entry

-- a rank as the line shows it
abbrev pub rank_read : Option ℕ → Rank
rank_read None = ranks.Undecided
rank_read (Some rank) = ranks.At rank

-- the line without the name
abbrev pub unnamed : ShownEntry → EntryLine
unnamed x = record { total = x.total; rank = rank_read x.rank; wins = x.wins; undecided = x.undecided }

-- the total of the entry at a place, and its matches won and undecided, are those of the match lines
abbrev pub adds_up : List MatchLine → ℕ → ShownEntry → Bool
adds_up matches place x =
    same_ends x.total (total_of place matches) && (x.wins == wins_of place matches && x.undecided == undecided_of place matches)

-- ---- all lines of entries

-- the totals that lines show
abbrev pub totals_in : List EntryLine → List Ends
totals_in entries = map (λ entry. entry.total) entries

abbrev pub same_rank : Rank → Rank → Bool
same_rank (ranks.At a) (ranks.At b) = a == b
same_rank ranks.Undecided ranks.Undecided = true
same_rank _ _ = false

-- the ranks of these lines, the first of which stands at a place, are those by the totals of all
abbrev pub ranked_from : List Ends → ℕ → List EntryLine → Bool
ranked_from totals place [] = true
ranked_from totals place (entry ∷ more) = same_rank entry.rank (rank_of totals place) && ranked_from totals (place + 1) more

-- each rank is the one by the totals of all lines
abbrev pub are_ranked : List EntryLine → Bool
are_ranked entries = ranked_from (totals_in entries) 0 entries

-- ---- one line behind the others

-- at most 2080 matches, before all entries
abbrev pub match_fits : Head → Table → ShownMatch → Bool
match_fits head table m = (length table.entries == 0 && nat_lt (length table.matches) 2080) && is_scored head m

-- at most 64 entries, each once
abbrev pub entry_fits : List (List ℕ) → Table → ShownEntry → Bool
entry_fits names table x =
    (nat_lt (length table.entries) 64 && not (is_listed table.who (place_in names x.name))) && adds_up table.matches (place_in names x.name) x

-- behind the last entry: its line and those before it have the right ranks, and each entry of a match has a line
abbrev pub is_whole : List (List ℕ) → Table → Bool
is_whole names table = (nat_le 1 (length table.entries) && are_ranked table.entries) && are_listed (length names) table.who

-- the table with one more match
abbrev pub with_match : List (List ℕ) → Table → ShownMatch → Table
with_match names table m = record { matches = table.matches ++ placed_match names m ∷ []; who = table.who; entries = table.entries }

-- the table with one more entry, whose place is behind all others where its name is new
abbrev pub with_entry : List (List ℕ) → Table → ShownEntry → Table
with_entry names table x =
    record { matches = table.matches; who = table.who ++ place_in names x.name ∷ []; entries = table.entries ++ unnamed x ∷ [] }

abbrev pub table_allows : Head → List (List ℕ) → Table → Line → Bool
table_allows head names table (lines.Match m) = match_fits head table m
table_allows head names table (lines.Entry x) = entry_fits names table x
table_allows head names table lines.End = is_whole names table
table_allows _ _ _ _ = false

-- what a line behind those of a table leaves
abbrev pub after_table : Head → OwnNoises → List (List ℕ) → Table → Line → State
after_table head own names table (lines.Match m) =
    states.InBody head own (names_with_match names m) (parts.Tournament (with_match names table m))
after_table head own names table (lines.Entry x) =
    states.InBody head own (with_name names x.name) (parts.Tournament (with_entry names table x))
after_table head own names table lines.End =
    states.Ended head own.noises names (bodies.Tournament table.matches table.who table.entries)
after_table head own names table _ = states.InBody head own names (parts.Tournament table)
