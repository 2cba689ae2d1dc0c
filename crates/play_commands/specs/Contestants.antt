-- The entries of a lab as contestants of a tournament.
use Rattle.std.specs.Prelude.{ℕ, ◌≡◌, ◌<◌, List, length, map, slice_index_or}
use Rattle.history_model.specs.Noise.{FlipRate}
use Rattle.player_core.specs.Sheet.{IsSheet}
use Rattle.sheet_rules.specs.declared.contestant.Contestant.{Contestant}
use Rattle.sheet_rules.specs.Entrants.{entrant_of}
use Rattle.lab_file.specs.declared.lab.Entry.{Entry}
use Rattle.lab_file.specs.Lab.{LabData}
use Rattle.play_commands.specs.Entrants.{IsEntrant}

-- the contestant is the entry at a place
pub record IsContestantOf (lab : LabData) (place : ℕ) (contestant : Contestant) : Type 0 where
  pub is : IsEntrant lab place (entrant_of contestant)
  pub valid : IsSheet contestant.sheet.now

-- the contestants are the first entries, so many, in file order
pub record AreFirst (lab : LabData) (count : ℕ) (contestants : List Contestant) : Type 0 where
  pub count_is : length contestants ≡ count
  pub each : (place : ℕ) (none : Contestant) → place < count → IsContestantOf lab place (slice_index_or contestants place none)

-- the noises of all entries, in file order
abbrev pub noises_of : List Entry → List FlipRate
noises_of entries = map (λ entry. entry.noise) entries
