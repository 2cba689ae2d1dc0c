-- How often the players of a side were advanced and resumed.
use Rattle.std.specs.Prelude.{ℕ, ◌≡◌, ◌⊎◌, ◌+◌, ◌-◌, ◌^◌, ◌≤◌, ◌<◌, List, length, map, sum, slice_index}
use Rattle.player_core.specs.State.{PlayerState}

-- the counts of a side, in order of place
abbrev pub turns_of : List PlayerState → List ℕ
turns_of states = map (λ state. state.turns) states

abbrev pub returns_of : List PlayerState → List ℕ
returns_of states = map (λ state. state.returns) states

-- the advances and the resumes of a side in all
abbrev pub side_turns : List PlayerState → ℕ
side_turns states = sum (turns_of states)

abbrev pub side_returns : List PlayerState → ℕ
side_returns states = sum (returns_of states)

-- some count has come to the last value of 64 bits, where it stays
abbrev pub IsFull : List ℕ → Type 0
IsFull counts = (k : ℕ) × (k < length counts) × (2 ^ 64 - 1 ≤ slice_index counts k)

-- as many counts, and none has fallen
pub record NoneFell (old new : List ℕ) : Type 0 where
  pub length_is : length new ≡ length old
  pub grown : (k : ℕ) → slice_index old k ≤ slice_index new k

-- the counts grew by k in all, or by less where one is full
pub record Grew (k : ℕ) (old new : List ℕ) : Type 0 where
  pub none_fell : NoneFell old new
  pub most : sum new ≤ sum old + k
  pub total : (sum new ≡ sum old + k) ⊎ IsFull new

pub record GrewAtLeast (k : ℕ) (old new : List ℕ) : Type 0 where
  pub none_fell : NoneFell old new
  pub total : (sum old + k ≤ sum new) ⊎ IsFull new

-- a side made k advances
abbrev pub Advanced : ℕ → List PlayerState → List PlayerState → Type 0
Advanced k old new = Grew k (turns_of old) (turns_of new)

-- a side made at least k advances, or resumes
abbrev pub AdvancedAtLeast : ℕ → List PlayerState → List PlayerState → Type 0
AdvancedAtLeast k old new = GrewAtLeast k (turns_of old) (turns_of new)

abbrev pub ResumedAtLeast : ℕ → List PlayerState → List PlayerState → Type 0
ResumedAtLeast k old new = GrewAtLeast k (returns_of old) (returns_of new)
