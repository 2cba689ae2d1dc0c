-- Where the chain goes: the weights of a row's moves, and the rows that follow.
use Rattle.std.specs.Prelude.{ℕ, ◌+◌, ◌*◌, ◌≡◌, ◌≤◌, ◌<◌, List, length, slice_index, slice_index_or}
use Rattle.history_model.specs.declared.moves.Move.{Move}
use Rattle.history_model.specs.declared.moves.Move.TheVariants.{C, D}
use Rattle.history_model.specs.Automaton.{Automaton, weight_at, row_at, next_of}
use Rattle.history_model.specs.Noise.{FlipRate}
use Rattle.history_model.specs.Expectation.{shown}
use Rattle.product_chain.specs.declared.side.Side.{Side}
use Rattle.product_chain.specs.declared.course.Weights.{Weights}
use Rattle.product_chain.specs.declared.course.Fork.{Fork}
use Rattle.product_chain.specs.declared.course.Course.{Course}

-- the weights of the moves that an automaton shows at a row
pub record AreWeights (a : Automaton) (noise : FlipRate) (row : ℕ) (w : Weights) : Type 0 where
  pub c : w.c ≡ shown noise a.den (weight_at a row) C
  pub d : w.d ≡ shown noise a.den (weight_at a row) D
  pub sum : w.c + w.d ≡ a.den * noise.e
  pub few : w.c + w.d ≤ 1000000

pub record AreRowWeights (a : Automaton) (noise : FlipRate) (weights : List Weights) : Type 0 where
  pub size : length weights ≡ length a.rows
  pub each : (row : ℕ) (d : Weights) → row < length a.rows → AreWeights a noise row (slice_index_or weights row d)

-- both rows of a fork are rows
pub record IsInside (rows : ℕ) (fork : Fork) : Type 0 where
  pub c : fork.c < rows
  pub d : fork.d < rows

-- the side's next rows after its move at row u, where the other cooperates and where it defects
pub record IsFork (a : Automaton) (u : ℕ) (mine : Move) (fork : Fork) : Type 0 where
  pub c : fork.c ≡ next_of (row_at a u) mine C
  pub d : fork.d ≡ next_of (row_at a u) mine D

-- the forks of a move, each once, and the place of each row's fork
pub record AreForks (a : Automaton) (mine : Move) (forks : List Fork) (places : List ℕ) : Type 0 where
  pub size : length places ≡ length a.rows
  pub inside : (k : ℕ) (d : Fork) → k < length forks → IsInside (length a.rows) (slice_index_or forks k d)
  pub placed : (u : ℕ) → u < length a.rows → slice_index places u < length forks
  pub each : (u : ℕ) (d : Fork) → u < length a.rows → IsFork a u mine (slice_index_or forks (slice_index places u) d)

-- the other's next rows against a move of the side at row v, where the other cooperates and where it defects
pub record IsAnswer (b : Automaton) (v : ℕ) (mine : Move) (fork : Fork) : Type 0 where
  pub c : fork.c ≡ next_of (row_at b v) C mine
  pub d : fork.d ≡ next_of (row_at b v) D mine
  pub inside : IsInside (length b.rows) fork

pub record AreAnswers (b : Automaton) (mine : Move) (answers : List Fork) : Type 0 where
  pub size : length answers ≡ length b.rows
  pub each : (v : ℕ) (d : Fork) → v < length b.rows → IsAnswer b v mine (slice_index_or answers v d)

-- where the rows of both sides go after a move of the side
pub record IsCourse (s : Side) (mine : Move) (course : Course) : Type 0 where
  pub forks : AreForks s.own.now mine course.forks.items course.places.items
  pub answers : AreAnswers s.other.now mine course.answers.items

-- all forks lead to rows
abbrev pub AreInside : ℕ → List Fork → Type 0
AreInside rows forks = (v : ℕ) (d : Fork) → v < length forks → IsInside rows (slice_index_or forks v d)
