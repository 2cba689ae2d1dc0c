-- What a side expects from a pair of rows, and numbers that lie near it.
use Rattle.std.specs.Prelude.{ℕ, ◌+◌, ◌*◌, ◌^◌, ◌≡◌, ◌≤◌, ◌<◌, List, length, slice_index, slice_index_or, replicate, Vec}
use Rattle.std.specs.declared.alloc.Global.{Global}
use Rattle.history_model.specs.declared.moves.Move.{Move}
use Rattle.history_model.specs.declared.moves.Move.TheVariants.{C, D}
use Rattle.history_model.specs.Automaton.{IsAutomaton, weight_at, row_at, next_of}
use Rattle.history_model.specs.Noise.{IsFlipRate}
use Rattle.history_model.specs.Game.{pay, IsGame}
use Rattle.history_model.specs.Expectation.{shown, expected_by_rows}
use Rattle.product_chain.specs.declared.side.Side.{Side}
use Rattle.product_chain.specs.Scale.{top}

-- the automata, the chances of flips and the payoffs are valid, and what is computed from them is right
pub record IsSide (s : Side) : Type 0 where
  pub own : IsAutomaton s.own.now
  pub own_rate : IsFlipRate s.own_noise.now
  pub own_over : s.own_over ≡ s.own.now.den * s.own_noise.now.e
  pub own_some : 1 ≤ s.own_over
  pub own_few : s.own_over ≤ 1000000
  pub other : IsAutomaton s.other.now
  pub other_rate : IsFlipRate s.other_noise.now
  pub other_over : s.other_over ≡ s.other.now.den * s.other_noise.now.e
  pub other_some : 1 ≤ s.other_over
  pub other_few : s.other_over ≤ 1000000
  pub game : IsGame s.game.now
  pub top : s.top ≡ top s.game.now

abbrev pub own_rows : Side → ℕ
own_rows s = length s.own.now.rows

abbrev pub other_rows : Side → ℕ
other_rows s = length s.other.now.rows

-- the denominator of one play
abbrev pub one_play : Side → ℕ
one_play s = s.own.now.den * s.own_noise.now.e * (s.other.now.den * s.other_noise.now.e)

-- the denominator of n plays
abbrev pub plays : Side → ℕ → ℕ
plays s n = one_play s ^ n

-- what the side expects of n turns from a pair of rows, over the denominator of n plays
abbrev pub expected : Side → ℕ → ℕ → ℕ → ℕ
expected s n u v = expected_by_rows s.own.now s.own_noise.now s.other.now s.other_noise.now s.game.now n u v

-- the weights of the moves that the side shows at row u, and the other at row v
abbrev pub own_weight : Side → ℕ → Move → ℕ
own_weight s u move = shown s.own_noise.now s.own.now.den (weight_at s.own.now u) move

abbrev pub other_weight : Side → ℕ → Move → ℕ
other_weight s v move = shown s.other_noise.now s.other.now.den (weight_at s.other.now v) move

-- what a play pays the side, with n turns from the next rows
abbrev pub paid : Side → ℕ → Move → Move → ℕ → ℕ → ℕ
paid s n mine theirs u v = pay s.game.now mine theirs * plays s n + expected s n u v

-- what a move of the side brings, with n turns after it: the other is at row v, and the side's next row is i where the other cooperates and j where it defects
abbrev pub moved : Side → ℕ → Move → ℕ → ℕ → ℕ → ℕ
moved s n mine i j v =
    other_weight s v C * paid s n mine C i (next_of (row_at s.other.now v) C mine)
    + other_weight s v D * paid s n mine D j (next_of (row_at s.other.now v) D mine)

-- x exceeds the fraction e / y by at most `below`, and falls short of it by at most `above`, in parts of which `scale` make 1
pub record IsNear (scale below above x e y : ℕ) : Type 0 where
  pub low : x * y ≤ scale * e + below * y
  pub high : scale * e ≤ (x + above) * y

-- how finely the chain counts: the parts of a point, the parts that a turn can pay, and the errors of a turn
pub record Grain : Type 0 where
  pub scale : ℕ
  pub unit : ℕ
  pub below : ℕ
  pub above : ℕ

-- a cell of the chain: the side is at row u and the other at row v, and n turns are to come
pub record IsCell (s : Side) (g : Grain) (n u v x : ℕ) : Type 0 where
  pub near : IsNear g.scale (g.below * n) (g.above * n) x (expected s n u v) (plays s n)
  pub small : x ≤ n * g.unit

-- the cells of the row u
pub record IsRow (s : Side) (g : Grain) (n u : ℕ) (cells : List ℕ) : Type 0 where
  pub size : length cells ≡ other_rows s
  pub each : (v : ℕ) → v < other_rows s → IsCell s g n u v (slice_index cells v)

-- the cells of all pairs of rows
pub record IsLayer (s : Side) (g : Grain) (n : ℕ) (layer : List (Vec ℕ Global)) : Type 0 where
  pub size : length layer ≡ own_rows s
  pub each : (u : ℕ) (d : Vec ℕ Global) → u < own_rows s → IsRow s g n u (slice_index_or layer u d).items

-- rows of cells
pub record IsTable (rows width : ℕ) (table : List (Vec ℕ Global)) : Type 0 where
  pub size : length table ≡ rows
  pub each : (k : ℕ) (d : Vec ℕ Global) → k < rows → length (slice_index_or table k d).items ≡ width

-- the layer as far as its first rows
pub record IsLayerTo (s : Side) (g : Grain) (n done : ℕ) (layer : List (Vec ℕ Global)) : Type 0 where
  pub table : IsTable (own_rows s) (other_rows s) layer
  pub each : (u : ℕ) (d : Vec ℕ Global) → u < done → IsRow s g n u (slice_index_or layer u d).items

-- rows of cells that hold nothing
pub record AreNone (rows width : ℕ) (table : List (Vec ℕ Global)) : Type 0 where
  pub size : length table ≡ rows
  pub each : (k : ℕ) (d : Vec ℕ Global) → k < rows → (slice_index_or table k d).items ≡ replicate width 0
