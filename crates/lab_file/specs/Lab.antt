-- A lab: the game, the entries and the jobs that a lab file stands for.
use Rattle.std.specs.Prelude.{ℕ, ◌≡◌, ◌≢◌, ◌⊎◌, ◌<◌, ◌≤◌, List, [], length, map, slice_index_or, All}
use Rattle.history_model.specs.declared.moves.Move.TheVariants.{C}
use Rattle.history_model.specs.Game.{Payoffs}
use Rattle.history_model.specs.Noise.{FlipRate, no_noise}
use Rattle.game_file.specs.GameOf.{IsOffset}
use Rattle.strategy_file.specs.declared.draft.Draft.TheVariants.{FromFile}
use Rattle.lab_file.specs.declared.lab.Entry.{Entry}
use Rattle.job_tables.specs.declared.jobs.Jobs.{Jobs}
use Rattle.job_tables.specs.Jobs.{AreJobs}

-- the game is the one of the file with the offset added to each payoff
pub record LabData : Type 0 where
  pub version : ℕ
  pub offset : ℕ
  pub game : Payoffs
  pub noise : FlipRate
  pub entries : List Entry
  pub jobs : Jobs

-- what stands where there is no entry
abbrev pub no_entry : Entry
no_entry = record { name = []; draft = FromFile (record { file = []; start = 0; opening = C }); noise = no_noise }

abbrev pub entry_at : List Entry → ℕ → Entry
entry_at entries place = slice_index_or entries place no_entry

-- the names of entries, in file order
abbrev pub names_of : List Entry → List (List ℕ)
names_of entries = map (λ entry. entry.name) entries

-- no two entries have one name
abbrev pub NamesDiffer : List Entry → Type 0
NamesDiffer entries = (j k : ℕ) → j < k → k < length entries → (entry_at entries j).name ≢ (entry_at entries k).name

-- 1 to 64 entries of different names
pub record AreEntries (entries : List Entry) : Type 0 where
  pub some : 1 ≤ length entries
  pub few : length entries ≤ 64
  pub differ : NamesDiffer entries

-- each entry has this noise
abbrev pub HaveNoise : FlipRate → List Entry → Type 0
HaveNoise noise entries = All (λ (entry : Entry). entry.noise ≡ noise) entries

-- of version 1 or 2; in version 1 no payoff was raised, and each entry has the lab's noise
pub record IsLab (lab : LabData) : Type 0 where
  pub version : (lab.version ≡ 1) ⊎ (lab.version ≡ 2)
  pub offset : IsOffset lab.game lab.offset
  pub unraised : lab.version ≡ 1 → lab.offset ≡ 0
  pub one_noise : lab.version ≡ 1 → HaveNoise lab.noise lab.entries
  pub entries : AreEntries lab.entries
  pub jobs : AreJobs (length lab.entries) lab.jobs
