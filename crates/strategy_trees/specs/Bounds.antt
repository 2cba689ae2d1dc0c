-- What no strategy tree exceeds, and what the tree of a plan attains, in a number of turns.
use Rattle.std.specs.Prelude.{ℕ, suc, ◌*◌, ◌^◌, ◌≡◌, ◌≤◌, ◌<◌, ℤ, pos, ◌-ℤ◌, ◌*ℤ◌, ◌≤ℤ◌}
use Rattle.history_model.specs.declared.moves.Move.{Move}
use Rattle.history_model.specs.Tree.{Tree, IsTree, Plan, plan_tree, tree_expectation}
use Rattle.strategy_trees.specs.Contest.{Contest, IsContest, rows, one_play, worth}

-- the denominator of one play of a tree whose weights are over z
abbrev pub tree_play : Contest → ℕ → ℕ
tree_play c z = z * c.own_noise.e * (c.opponent.den * c.noise.e)

-- what a tree with weights over z expects in n turns, where each payoff is less by the offset, times the n-th power of that
abbrev pub expected : Contest → ℕ → Tree → ℕ → ℕ → ℤ
expected c z tree offset n = tree_expectation z tree c.own_noise c.opponent c.noise c.game offset n

-- no strategy tree expects more than hi in n turns, in units of which so many make a point
abbrev pub NoTreeExceeds : Contest → ℕ → ℕ → ℕ → ℤ → Type 0
NoTreeExceeds c offset n units hi =
    (z : ℕ) (tree : Tree) → 1 ≤ z → IsTree z n tree → (pos units *ℤ expected c z tree offset n) ≤ℤ (hi *ℤ pos (tree_play c z ^ n))

-- the tree of the plan expects at least lo
abbrev pub PlanAttains : Contest → Plan → ℕ → ℕ → ℕ → ℤ → Type 0
PlanAttains c plan offset n units lo =
    (lo *ℤ pos (tree_play c 1 ^ n)) ≤ℤ (pos units *ℤ expected c 1 (plan_tree plan c.opponent n c.opponent.start) offset n)

-- numbers by turns left and row, each at least what either move is worth by those of one turn less
pub record AreUppers (c : Contest) (units n : ℕ) (upper : ℕ → ℕ → ℕ) : Type 0 where
  pub above : (t row : ℕ) (move : Move) → t < n → row < rows c → worth c units (upper t) row move ≤ upper (suc t) row * one_play c

-- numbers by turns left and row, each at most what the plan's move is worth by those of one turn less, and 0 where no turn is left
pub record AreLowers (c : Contest) (units n : ℕ) (plan : Plan) (lower : ℕ → ℕ → ℕ) : Type 0 where
  pub none : (row : ℕ) → row < rows c → lower 0 row ≡ 0
  pub below : (t row : ℕ) → t < n → row < rows c → lower (suc t) row * one_play c ≤ worth c units (lower t) row (plan (suc t) row)

-- the law: such uppers bound every tree
abbrev pub UppersBoundTrees : Type 0
UppersBoundTrees =
    (c : Contest) (units n : ℕ) (upper : ℕ → ℕ → ℕ) → IsContest c → AreUppers c units n upper →
    NoTreeExceeds c 0 n units (pos (upper n c.opponent.start))

-- the law: such lowers are attained by the tree of their plan
abbrev pub LowersAreAttained : Type 0
LowersAreAttained =
    (c : Contest) (units n : ℕ) (plan : Plan) (lower : ℕ → ℕ → ℕ) → IsContest c → AreLowers c units n plan lower →
    PlanAttains c plan 0 n units (pos (lower n c.opponent.start))

-- the law: an offset lowers what every tree expects by itself in each turn
abbrev pub OffsetLowersTrees : Type 0
OffsetLowersTrees =
    (c : Contest) (z : ℕ) (tree : Tree) (offset n : ℕ) → IsContest c → IsTree z n tree →
    expected c z tree offset n ≡ expected c z tree 0 n -ℤ pos (offset * n * tree_play c z ^ n)

-- a bound of every tree, and one that a plan attains, are lowered by the offset in each turn
pub record AreLowered (c : Contest) (plan : Plan) (offset n units : ℕ) (lo hi : ℤ) : Type 0 where
  pub exceeds : NoTreeExceeds c 0 n units hi → NoTreeExceeds c offset n units (hi -ℤ pos (offset * n * units))
  pub attains : PlanAttains c plan 0 n units lo → PlanAttains c plan offset n units (lo -ℤ pos (offset * n * units))

-- the law: bounds are
abbrev pub BoundsAreLowered : Type 0
BoundsAreLowered = (c : Contest) (plan : Plan) (offset n units : ℕ) (lo hi : ℤ) → IsContest c → AreLowered c plan offset n units lo hi
