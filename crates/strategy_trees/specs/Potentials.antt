-- What potentials say of every strategy tree, in any number of turns.
use Rattle.std.specs.Prelude.{ℕ, ◌<◌, ◌≡◌, ℤ, pos, ◌+ℤ◌, ◌-ℤ◌, ◌*ℤ◌, ◌≤ℤ◌, Option, Some}
use Rattle.history_model.specs.Mean.{ArePotentials}
use Rattle.strategy_trees.specs.Contest.{Contest, IsContest, IsSureContest, rows}
use Rattle.strategy_trees.specs.Bounds.{NoTreeExceeds}

-- no row has a potential above `most`
pub record AreAtMost (c : Contest) (potential : ℕ → Option ℤ) (most : ℤ) : Type 0 where
  pub each : (row : ℕ) (h : ℤ) → row < rows c → potential row ≡ Some h → h ≤ℤ most

-- the law: where nothing is left to chance, den times what a tree expects in n turns is at most num for each turn, and what the
-- greatest potential is above that of the start
abbrev pub PotentialsBoundTrees : Type 0
PotentialsBoundTrees =
    (c : Contest) (offset n den : ℕ) (num most first : ℤ) (potential : ℕ → Option ℤ) → IsContest c → IsSureContest c →
    ArePotentials c.opponent c.game offset num (pos den) potential → potential c.opponent.start ≡ Some first → AreAtMost c potential most →
    NoTreeExceeds c offset n den ((num *ℤ pos n +ℤ most) -ℤ first)
