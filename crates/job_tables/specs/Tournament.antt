-- Who meets whom in a tournament. Entries go by their places, counted from 0.
use Rattle.std.specs.Prelude.{◌≡◌, ℕ, ◌+◌, ◌*◌, ◌/◌, ◌%◌, ◌<◌, ◌≤◌, ◌==◌, ◌&&◌, ◌||◌, ◌⊎◌, nat_lt, Bool, true, List, [], ◌∷◌, ◌++◌, length, map, filter, All, AllPairs, Contains, Option, Some, None, if◌then◌else◌}
use Rattle.std.specs.List.{list_any, range_with_len}
use Rattle.job_tables.specs.declared.tournament.Edge.{Edge}
use Rattle.job_tables.specs.declared.tournament.TournamentJob.{TournamentJob}

-- the edge joins these two entries, in either order
abbrev pub joins : ℕ → ℕ → Edge → Bool
joins left right edge = edge.left == left && edge.right == right || edge.left == right && edge.right == left

-- whether two different entries meet: any two do, or with edges those that an edge joins
abbrev pub are_joined : Option (List Edge) → ℕ → ℕ → Bool
are_joined None left right = true
are_joined (Some edges) left right = list_any (joins left right) edges

-- whether the pair is a match: of an entry with itself in self-play, else of two that are joined, with the smaller place first
abbrev pub is_played : TournamentJob → ℕ × ℕ → Bool
is_played job pair =
    if pair.0 == pair.1 then job.self_play else nat_lt pair.0 pair.1 && are_joined job.edges pair.0 pair.1

-- all pairs of so many entries, row by row: (0, 0), (0, 1), ..
abbrev pub pair_at : ℕ → ℕ → ℕ × ℕ
pair_at count field = (field / count, field % count)

abbrev pub all_pairs : ℕ → List (ℕ × ℕ)
all_pairs count = map (pair_at count) (range_with_len 0 (count * count))

-- what is played at a field of the square of all pairs, and the matches in the first fields
abbrev pub played_at : TournamentJob → ℕ → ℕ → Option (ℕ × ℕ)
played_at job count field = if is_played job (pair_at count field) then Some (pair_at count field) else None

abbrev pub played_before : TournamentJob → ℕ → ℕ → List (ℕ × ℕ)
played_before job count field = filter (is_played job) (map (pair_at count) (range_with_len 0 field))

-- one match more, where there is one
abbrev pub with_match : List (ℕ × ℕ) → Option (ℕ × ℕ) → List (ℕ × ℕ)
with_match pairs None = pairs
with_match pairs (Some pair) = pairs ++ pair ∷ []

-- the matches of a tournament of so many entries
abbrev pub tournament_pairs : TournamentJob → ℕ → List (ℕ × ℕ)
tournament_pairs job count = filter (is_played job) (all_pairs count)

-- by the left place, then by the right one
abbrev pub ComesBefore : ℕ × ℕ → ℕ × ℕ → Type 0
ComesBefore pair later = (pair.0 < later.0) ⊎ ((pair.0 ≡ later.0) × (pair.1 < later.1))

-- the pairs ascend strictly and name entries, the smaller place first; and they are those that are played
pub record AreMatches (job : TournamentJob) (count : ℕ) (pairs : List (ℕ × ℕ)) : Type 0 where
  pub ascending : AllPairs ComesBefore pairs
  pub few : 2 * length pairs ≤ count * (count + 1)
  pub within : All (λ pair. (pair.0 ≤ pair.1) × (pair.1 < count)) pairs
  pub played : All (λ pair. is_played job pair ≡ true) pairs
  pub every : (i j : ℕ) → i < count → j < count → is_played job (i, j) ≡ true → Contains pairs (i, j)

-- the law of tournaments
abbrev pub TournamentsAscend : Type 0
TournamentsAscend = (job : TournamentJob) (count : ℕ) → AreMatches job count (tournament_pairs job count)
