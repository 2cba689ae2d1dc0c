-- Every strategy that chooses by fractions is a tree, and so is every plan.
use Rattle.std.specs.Prelude.{ℕ, zero, suc, ◌≡◌, ◌≤◌, ◌<◌, [], ◌∷◌, length}
use Rattle.history_model.specs.declared.moves.Move.TheVariants.{C, D}
use Rattle.history_model.specs.declared.moves.Play.{Play}
use Rattle.history_model.specs.Automaton.{Automaton}
use Rattle.history_model.specs.History.{History}
use Rattle.history_model.specs.Expectation.{Chooser, player, expectation}
use Rattle.history_model.specs.Tree.{Tree, stop, node, IsTree, tree_player, Plan, plan_tree}
use Rattle.strategy_trees.specs.Contest.{Contest}
use Rattle.strategy_trees.specs.Bounds.{expected}

-- no weight in n plays is above the denominator
pub record ChoosesByFractions (a : Chooser) (n : ℕ) : Type 0 where
  pub within : (history : History) → length history < n → a.weight history ≤ a.den

-- the strategy after a first play
abbrev pub after : Chooser → Play → Chooser
after a play = record { den = a.den; weight = λ history. a.weight (play ∷ history) }

-- what the strategy does in n plays, as a tree
abbrev pub tree_of : ℕ → Chooser → Tree
tree_of zero a = stop
tree_of (suc n) a =
    node (a.weight [])
    (tree_of n (after a (record { mine = C; theirs = C })))
    (tree_of n (after a (record { mine = C; theirs = D })))
    (tree_of n (after a (record { mine = D; theirs = C })))
    (tree_of n (after a (record { mine = D; theirs = D })))

-- a tree of n plays with the strategy's denominator that chooses as the strategy does, and expects what it expects
pub record IsTreeOf (n : ℕ) (a : Chooser) (tree : Tree) : Type 0 where
  pub is_tree : IsTree a.den n tree
  pub weights : (history : History) → length history < n → (tree_player a.den tree).weight history ≡ a.weight history
  pub expects : (c : Contest) (offset : ℕ) →
      expected c a.den tree offset n ≡ expectation a c.own_noise (player c.opponent) c.noise c.game offset n

-- the law: every strategy that chooses by fractions is such a tree
abbrev pub StrategiesAreTrees : Type 0
StrategiesAreTrees = (a : Chooser) (n : ℕ) → ChoosesByFractions a n → IsTreeOf n a (tree_of n a)

-- the law: the tree of a plan is a tree with z = 1
abbrev pub PlansAreTrees : Type 0
PlansAreTrees = (plan : Plan) (b : Automaton) (n row : ℕ) → IsTree 1 n (plan_tree plan b n row)
