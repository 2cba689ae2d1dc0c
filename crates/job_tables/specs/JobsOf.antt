-- The jobs that the tables of a document stand for, or the first refusal. Entries are given by their names, in file order.
use Rattle.std.specs.Prelude.{ℕ, ◌+◌, ◌^◌, ◌||◌, ◌==◌, Bool, false, is_some, List, [], ◌∷◌, ◌++◌, length, position, Option, Some, None, Result, Ok, Err, bytes_eq, if◌then◌else◌}
use Rattle.std.specs.List.{list_any}
use Rattle.toml.specs.Data.{Data, Members, Items, no_items, item}
use Rattle.refusals.specs.declared.refusal.Refusal.{Refusal}
use Rattle.refusals.specs.declared.refusal.Refusal.TheVariants.{UnknownEntry, DoubledEdge, NotBuilt}
use Rattle.refusals.specs.declared.place.Place.{Place}
use Rattle.refusals.specs.declared.place.KeyName.{KeyName}
use Rattle.refusals.specs.declared.place.KeyName.TheVariants as key
use Rattle.refusals.specs.declared.place.TableName.TheVariants as table
use Rattle.refusals.specs.Refusing.{◌>>=◌, or_refuse}
use Rattle.lab_keys.specs.Keys.{found_at, text_at, whole_at, truth_at, optional_table_at, optional_pairs_at, pair_of}
use Rattle.job_tables.specs.declared.jobs.Jobs.{Jobs}
use Rattle.job_tables.specs.declared.jobs.MatchJob.{MatchJob}
use Rattle.job_tables.specs.declared.tournament.Edge.{Edge}
use Rattle.job_tables.specs.declared.tournament.TournamentJob.{TournamentJob}
use Rattle.job_tables.specs.Tournament.{joins}

-- keys of the top of the file, of the match and of the tournament
abbrev pub top : KeyName → Place
top key = record { table = table.Top; entry = 0; key = key }

abbrev pub in_match : KeyName → Place
in_match key = record { table = table.Match; entry = 0; key = key }

abbrev pub in_tournament : KeyName → Place
in_tournament key = record { table = table.Tournament; entry = 0; key = key }

-- the place, from 0, of the first entry of a name
abbrev pub place_of : List ℕ → List (List ℕ) → Option ℕ
place_of name names = position (λ one. bytes_eq name one) names

-- the place of the entry that is named at a key of a job
abbrev pub place_named : List (List ℕ) → Place → List ℕ → Result ℕ Refusal
place_named names place name = or_refuse (UnknownEntry place) (place_of name names)

abbrev pub place_at : List (List ℕ) → Place → Members → Result ℕ Refusal
place_at names place job = text_at place job >>= place_named names place

unfoldable pub match_of : List (List ℕ) → Members → Result MatchJob Refusal
match_of names job = do
  left ← place_at names (in_match key.Left) job
  right ← place_at names (in_match key.Right) job
  turns ← whole_at (in_match key.Turns) 1 (10 ^ 12) job
  Ok (record { left = left; right = right; turns = turns })

-- the match of a table, where it stands
abbrev pub match_if : List (List ℕ) → Option Members → Result (Option MatchJob) Refusal
match_if names None = Ok None
match_if names (Some job) = match_of names job >>= λ found. Ok (Some found)

unfoldable pub match_at : List (List ℕ) → Members → Result (Option MatchJob) Refusal
match_at names tree = optional_table_at (top key.Match) tree >>= match_if names

-- an entry with itself, or the two of an earlier edge in either order
abbrev pub is_doubled : List Edge → ℕ → ℕ → Bool
is_doubled before left right = left == right || list_any (joins left right) before

-- the edge behind these; edges count from 1
unfoldable pub edge_of : List (List ℕ) → List Edge → Data → Result Edge Refusal
edge_of names before found = do
  pair ← pair_of (in_tournament key.Edges) found
  left ← place_named names (in_tournament key.Edges) pair.0
  right ← place_named names (in_tournament key.Edges) pair.1
  if is_doubled before left right then Err (DoubledEdge (length before + 1)) else Ok (record { left = left; right = right })

-- these edges and those behind them
abbrev pub edges_from : List (List ℕ) → List Edge → Items → Result (List Edge) Refusal
edges_from names before no_items = Ok before
edges_from names before (item found rest) = edge_of names before found >>= λ edge. edges_from names (before ++ edge ∷ []) rest

-- the edges of a list, where it stands; the types and the lengths of all pairs are tested before their names
abbrev pub edges_if : List (List ℕ) → Option Items → Result (Option (List Edge)) Refusal
edges_if names None = Ok None
edges_if names (Some items) = edges_from names [] items >>= λ edges. Ok (Some edges)

unfoldable pub edges_at : List (List ℕ) → Members → Result (Option (List Edge)) Refusal
edges_at names job = optional_pairs_at (in_tournament key.Edges) job >>= edges_if names

unfoldable pub tournament_of : List (List ℕ) → Members → Result TournamentJob Refusal
tournament_of names job = do
  turns ← whole_at (in_tournament key.Turns) 1 (10 ^ 12) job
  self_play ← truth_at (in_tournament key.SelfPlay) false job
  edges ← edges_at names job
  Ok (record { turns = turns; self_play = self_play; edges = edges })

-- the tournament of a table, where it stands
abbrev pub tournament_if : List (List ℕ) → Option Members → Result (Option TournamentJob) Refusal
tournament_if names None = Ok None
tournament_if names (Some job) = tournament_of names job >>= λ found. Ok (Some found)

unfoldable pub tournament_at : List (List ℕ) → Members → Result (Option TournamentJob) Refusal
tournament_at names tree = optional_table_at (top key.Tournament) tree >>= tournament_if names

-- the jobs that aren't built, in the order of their tables; nothing may stand at their keys, whatever its type
abbrev pub unbuilt : List KeyName
unbuilt = key.Rota ∷ key.Board ∷ key.Moran ∷ key.Best ∷ key.Mean ∷ key.Certificate ∷ []

abbrev pub has_unbuilt : Members → Bool
has_unbuilt tree = list_any (λ job. is_some (found_at (top job) tree)) unbuilt

-- the jobs that stand in the file: a new one adds one line
unfoldable pub jobs_of : List (List ℕ) → Members → Result Jobs Refusal
jobs_of names tree = do
  match_job ← match_at names tree
  tournament_job ← tournament_at names tree
  if has_unbuilt tree then Err NotBuilt else Ok (record { match_job = match_job; tournament_job = tournament_job })
