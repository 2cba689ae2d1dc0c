-- Cells of 128 bits: exact sums by the weights, divided once a turn.
use Rattle.std.specs.Prelude.{ℕ, ◌+◌, ◌*◌, ◌^◌, ◌≡◌, ◌≤◌, ◌<◌, List, length, slice_index, slice_index_or, Vec}
use Rattle.std.specs.declared.alloc.Global.{Global}
use Rattle.history_model.specs.declared.moves.Move.{Move}
use Rattle.history_model.specs.declared.moves.Move.TheVariants.{C, D}
use Rattle.product_chain.specs.declared.side.Side.{Side}
use Rattle.product_chain.specs.declared.course.Fork.{Fork}
use Rattle.product_chain.specs.declared.course.Weights.{Weights}
use Rattle.product_chain.specs.declared.wide.WidePlan.{WidePlan}
use Rattle.product_chain.specs.Layer.{Grain, IsNear, moved, one_play, plays, other_rows}
use Rattle.product_chain.specs.Course.{AreRowWeights, IsCourse}
use Rattle.product_chain.specs.Scale.{top}

-- r is at most 4 below x / q
pub record IsQuotient (x q r : ℕ) : Type 0 where
  pub low : r * q ≤ x
  pub high : x ≤ (r + 4) * q

-- a turn adds 4 parts at most to what a cell falls short of
abbrev pub wide_grain : Side → ℕ → Grain
wide_grain s scale = record { scale = scale; unit = top s.game.now * scale; below = 0; above = 4 }

-- a cell of 128 bits where the side's move is known: a sum by the weights of the other's moves
pub record IsSum (s : Side) (g : Grain) (n : ℕ) (mine : Move) (fork : Fork) (v x : ℕ) : Type 0 where
  pub near : IsNear g.scale 0 (4 * n * s.other_over) x (moved s n mine fork.c fork.d v) (plays s n)
  pub small : x ≤ s.other_over * ((n + 1) * g.unit)

pub record IsSumRow (s : Side) (g : Grain) (n : ℕ) (mine : Move) (fork : Fork) (cells : List ℕ) : Type 0 where
  pub size : length cells ≡ other_rows s
  pub each : (v : ℕ) → v < other_rows s → IsSum s g n mine fork v (slice_index cells v)

-- the rows of the first forks
pub record AreSumsTo (s : Side) (g : Grain) (n : ℕ) (mine : Move) (forks : List Fork) (done : ℕ) (rows : List (Vec ℕ Global)) : Type 0 where
  pub size : length rows ≡ length forks
  pub sized : (k : ℕ) (d : Vec ℕ Global) → k < length forks → length (slice_index_or rows k d).items ≡ other_rows s
  pub each : (k : ℕ) (d : Vec ℕ Global) (e : Fork) → k < done → IsSumRow s g n mine (slice_index_or forks k e) (slice_index_or rows k d).items

-- the weights of both sides, where their moves lead, and the denominator of one play
pub record IsWidePlan (plan : WidePlan) : Type 0 where
  pub own_weights : AreRowWeights plan.side.now.own.now plan.side.now.own_noise.now plan.own_weights.items
  pub other_weights : AreRowWeights plan.side.now.other.now plan.side.now.other_noise.now plan.other_weights.items
  pub after_c : IsCourse plan.side.now C plan.after_c
  pub after_d : IsCourse plan.side.now D plan.after_d
  pub by : plan.by.q ≡ one_play plan.side.now

-- with the gain each cell stays within 2^86
abbrev pub HasWideRoom : ℕ → List ℕ → Type 0
HasWideRoom gain cells = (v : ℕ) → v < length cells → gain + slice_index cells v ≤ 2 ^ 86

-- sums stay within 2^106
abbrev pub AreWithin : List ℕ → Type 0
AreWithin cells = (v : ℕ) → v < length cells → slice_index cells v ≤ 2 ^ 106

-- weights of both moves add up to a million at most
abbrev pub AreFew : List Weights → Type 0
AreFew weights = (v : ℕ) (d : Weights) → v < length weights → let w = slice_index_or weights v d in w.c + w.d ≤ 1000000

-- sums of what follows where the other cooperates and where it defects, with the gains
abbrev pub AreSummed : List Weights → List Fork → ℕ → List ℕ → ℕ → List ℕ → ℕ → List ℕ → Type 0
AreSummed weights answers gain_c after_c gain_d after_d done cells =
    (v : ℕ) (d : Weights) (e : Fork) → v < done →
    let w = slice_index_or weights v d in
    let fork = slice_index_or answers v e in
    slice_index cells v ≡ w.c * (gain_c + slice_index after_c fork.c) + w.d * (gain_d + slice_index after_d fork.d)

-- sums of two rows of cells, divided
abbrev pub AreDivided : Weights → ℕ → List ℕ → List ℕ → ℕ → List ℕ → Type 0
AreDivided w q if_c if_d done cells = (v : ℕ) → v < done → IsQuotient (w.c * slice_index if_c v + w.d * slice_index if_d v) q (slice_index cells v)
