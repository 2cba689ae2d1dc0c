-- Cells of 64 bits: means by parts of a whole, of which there are 2^63.
use Rattle.std.specs.Prelude.{ℕ, ◌+◌, ◌*◌, ◌^◌, ◌≡◌, ◌≤◌, ◌<◌, List, length, slice_index, slice_index_or, Vec}
use Rattle.std.specs.declared.alloc.Global.{Global}
use Rattle.history_model.specs.declared.moves.Move.{Move}
use Rattle.history_model.specs.declared.moves.Move.TheVariants.{C, D}
use Rattle.history_model.specs.Automaton.{Automaton, weight_at}
use Rattle.history_model.specs.Noise.{FlipRate}
use Rattle.history_model.specs.Expectation.{shown}
use Rattle.product_chain.specs.declared.side.Side.{Side}
use Rattle.product_chain.specs.declared.course.Fork.{Fork}
use Rattle.product_chain.specs.declared.slim.SlimPlan.{SlimPlan}
use Rattle.product_chain.specs.Layer.{Grain, IsNear, moved, plays, other_rows}
use Rattle.product_chain.specs.Course.{IsCourse}
use Rattle.product_chain.specs.Scale.{top}

-- the parts that w / q comes to, rounded down, and always less than a whole
pub record IsPart (w q part : ℕ) : Type 0 where
  pub low : part * q ≤ w * 2 ^ 63
  pub high : w * 2 ^ 63 ≤ (part + 1) * q
  pub less : part < 2 ^ 63

-- the parts of C at each row
pub record AreParts (a : Automaton) (noise : FlipRate) (parts : List ℕ) : Type 0 where
  pub size : length parts ≡ length a.rows
  pub each : (row : ℕ) → row < length a.rows → IsPart (shown noise a.den (weight_at a row) C) (a.den * noise.e) (slice_index parts row)

-- the mean of c by the part and of d by the rest, rounded down
pub record IsMix (part c d x : ℕ) : Type 0 where
  pub low : x * 2 ^ 63 + part * d ≤ part * c + 2 ^ 63 * d
  pub high : part * c + 2 ^ 63 * d < (x + 1) * 2 ^ 63 + part * d

-- a turn adds 2 parts at most to what a cell exceeds, and 4 to what it falls short of
abbrev pub slim_grain : Side → ℕ → Grain
slim_grain s scale = record { scale = scale; unit = top s.game.now * scale; below = 2; above = 4 }

-- a cell of 64 bits where the side's move is known
pub record IsMoved (s : Side) (g : Grain) (n : ℕ) (mine : Move) (fork : Fork) (v x : ℕ) : Type 0 where
  pub near : IsNear g.scale (2 * n + 1) (4 * n + 2) x (moved s n mine fork.c fork.d v) (s.other.now.den * s.other_noise.now.e * plays s n)
  pub small : x ≤ (n + 1) * g.unit

pub record IsMovedRow (s : Side) (g : Grain) (n : ℕ) (mine : Move) (fork : Fork) (cells : List ℕ) : Type 0 where
  pub size : length cells ≡ other_rows s
  pub each : (v : ℕ) → v < other_rows s → IsMoved s g n mine fork v (slice_index cells v)

-- the rows of the first forks
pub record AreMovedTo (s : Side) (g : Grain) (n : ℕ) (mine : Move) (forks : List Fork) (done : ℕ) (rows : List (Vec ℕ Global)) : Type 0 where
  pub size : length rows ≡ length forks
  pub sized : (k : ℕ) (d : Vec ℕ Global) → k < length forks → length (slice_index_or rows k d).items ≡ other_rows s
  pub each : (k : ℕ) (d : Vec ℕ Global) (e : Fork) → k < done → IsMovedRow s g n mine (slice_index_or forks k e) (slice_index_or rows k d).items

-- the parts of both sides, and where their moves lead
pub record IsSlimPlan (plan : SlimPlan) : Type 0 where
  pub own_parts : AreParts plan.side.now.own.now plan.side.now.own_noise.now plan.own_parts.items
  pub other_parts : AreParts plan.side.now.other.now plan.side.now.other_noise.now plan.other_parts.items
  pub after_c : IsCourse plan.side.now C plan.after_c
  pub after_d : IsCourse plan.side.now D plan.after_d

-- a gain more fits beside each cell
abbrev pub CellsHaveRoom : ℕ → List ℕ → Type 0
CellsHaveRoom gain cells = (v : ℕ) → v < length cells → gain + slice_index cells v < 2 ^ 63

-- each part is less than a whole
abbrev pub AreLess : List ℕ → Type 0
AreLess parts = (v : ℕ) → v < length parts → slice_index parts v < 2 ^ 63

-- means of what follows where the other cooperates and where it defects, with the gains
abbrev pub AreDrawn : List ℕ → List Fork → ℕ → List ℕ → ℕ → List ℕ → ℕ → List ℕ → Type 0
AreDrawn parts answers gain_c after_c gain_d after_d done cells =
    (v : ℕ) (e : Fork) → v < done →
    let fork = slice_index_or answers v e in
    IsMix (slice_index parts v) (gain_c + slice_index after_c fork.c) (gain_d + slice_index after_d fork.d) (slice_index cells v)

-- means of two rows of cells
abbrev pub AreMixed : ℕ → List ℕ → List ℕ → ℕ → List ℕ → Type 0
AreMixed part if_c if_d done cells = (v : ℕ) → v < done → IsMix part (slice_index if_c v) (slice_index if_d v) (slice_index cells v)
