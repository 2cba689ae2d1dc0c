-- The entries of a lab as entrants.
use Rattle.std.specs.Prelude.{ℕ, ◌≡◌}
use Rattle.strategy_file.specs.declared.draft.Draft.TheVariants.{Ready}
use Rattle.sheet_rules.specs.Entrants.{Entrant}
use Rattle.lab_file.specs.Lab.{LabData, entry_at}

-- the entrant is the entry at a place of the lab
pub record IsEntrant (lab : LabData) (place : ℕ) (entrant : Entrant) : Type 0 where
  pub sheet : (entry_at lab.entries place).draft ≡ Ready entrant.sheet
  pub noise : (entry_at lab.entries place).noise ≡ entrant.noise
