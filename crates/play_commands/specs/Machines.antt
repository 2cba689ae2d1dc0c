-- Machines that meet each other in a drill, and what is told of their results.
use Rattle.std.specs.Prelude.{ℕ, ◌≡◌, ◌==◌, Bool, false, All, List, [], ◌∷◌, length, map, filter, slice_index_or, ℤ, pos, ◌+ℤ◌, ◌≤ℤ◌, ◌^◌, None}
use Rattle.std.specs.List.{AllZip, range_with_len}
use Rattle.history_model.specs.Noise.{no_noise}
use Rattle.player_core.specs.declared.kind.Kind.TheVariants.{Machine}
use Rattle.player_core.specs.State.{Lasting}
use Rattle.player_core.specs.Sheet.{SheetData, IsSheet}
use Rattle.fixed_span.specs.Span.{Ends, Fraction, Holds, point, score_units}
use Rattle.sheet_rules.specs.declared.contestant.Contestant.{Contestant}
use Rattle.sheet_rules.specs.Entrants.{Entrant, entrants_of, expects_at}
use Rattle.result_lines.specs.declared.ranking.Rank.{Rank}
use Rattle.result_lines.specs.declared.ranking.Rank.TheVariants.{At, Undecided}
use Rattle.result_lines.specs.declared.tables.EntryLine.{EntryLine}
use Rattle.round_robin.specs.Contest.{Strategy, entrant_strategies}
use Rattle.round_robin.specs.Truth.{nothing, plus, true_totals, true_rank}
use Rattle.report_rules.specs.Valid.{drill_game}
use Rattle.job_tables.specs.declared.tournament.TournamentJob.{TournamentJob}
use Rattle.job_tables.specs.Tournament.{tournament_pairs}

-- ---- what is played

-- each machine meets each other one for a thousand million turns
abbrev pub drill_job : TournamentJob
drill_job = record { turns = 1000000000; self_play = false; edges = None }

-- the matches of the drill, each machine with each other one
unfoldable pub drill_pairs : List (ℕ × ℕ)
drill_pairs = tournament_pairs drill_job 64

-- 64 sheets of machines
pub record AreMachines (sheets : List SheetData) : Type 0 where
  pub many : length sheets ≡ 64
  pub machines : All (λ sheet. sheet.kind ≡ Machine) sheets
  pub valid : All IsSheet sheets

-- a machine whose moves are never flipped
abbrev pub still : SheetData → Entrant
still sheet = record { sheet = sheet; noise = no_noise }

-- contestants of these sheets, whose moves are never flipped
abbrev pub AreStill : List SheetData → List Contestant → Type 0
AreStill sheets contestants = entrants_of contestants ≡ map still sheets

-- what they play on the bench
abbrev pub machine_strategies : List Lasting → List SheetData → List Strategy
machine_strategies players sheets = entrant_strategies players (map still sheets)

-- ---- what is true of it

-- what the machine at one place expects against the one at another
abbrev pub machine_expects : List Lasting → List SheetData → ℕ → ℕ → Fraction
machine_expects players sheets i j = expects_at players drill_game 0 drill_job.turns (map still sheets) i j

-- the true totals of all machines
unfoldable pub machine_totals : List Lasting → List SheetData → List Fraction
machine_totals players sheets = true_totals (machine_expects players sheets) drill_pairs 64

-- the places of the first rank, in order
unfoldable pub first_places : List Fraction → List ℕ
first_places totals = filter (λ place. true_rank totals place == 1) (range_with_len 0 64)

abbrev pub sum_of : List Fraction → Fraction
sum_of [] = nothing
sum_of (total ∷ totals) = plus total (sum_of totals)

-- a number of units is the whole of a fraction
abbrev pub IsWhole : ℤ → Fraction → Type 0
IsWhole units x = Holds score_units (point units) x

-- ---- what is told of it

-- the first rank
abbrev pub is_first : Rank → Bool
is_first (At rank) = rank == 1
is_first Undecided = false

abbrev pub no_line : EntryLine
no_line = record { total = point (pos 0); rank = Undecided; wins = 0; undecided = 0 }

abbrev pub line_at : List EntryLine → ℕ → EntryLine
line_at entries place = slice_index_or entries place no_line

-- the place and the total of an entry
abbrev pub total_at : List EntryLine → ℕ → ℕ × ℤ
total_at entries place = (place, (line_at entries place).total.lo)

-- the entries of the first rank, in order, each with its total
abbrev pub first_of : List EntryLine → List (ℕ × ℤ)
first_of entries = map (total_at entries) (filter (λ place. is_first (line_at entries place).rank) (range_with_len 0 (length entries)))

-- a total from 0 to 10^34 units
pub record IsSmallTotal (total : Ends) : Type 0 where
  pub low : pos 0 ≤ℤ total.lo
  pub ordered : total.lo ≤ℤ total.hi
  pub high : total.hi ≤ℤ pos (10 ^ 34)

-- the sum of all totals
abbrev pub sum_of_totals : List EntryLine → ℤ
sum_of_totals [] = pos 0
sum_of_totals (entry ∷ entries) = entry.total.lo +ℤ sum_of_totals entries

-- what is told of machines is true: the first, their totals, and the sum of all totals
pub record IsTold (players : List Lasting) (sheets : List SheetData) (entries : List EntryLine) : Type 0 where
  pub many : length entries ≡ 64
  pub small : All (λ (entry : EntryLine). IsSmallTotal entry.total) entries
  pub first : first_of entries ≡ map (total_at entries) (first_places (machine_totals players sheets))
  pub totals : AllZip (λ line place. IsWhole line.1 (slice_index_or (machine_totals players sheets) place nothing)) (first_of entries) (first_places (machine_totals players sheets))
  pub sum : IsWhole (sum_of_totals entries) (sum_of (machine_totals players sheets))
