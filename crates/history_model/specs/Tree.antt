-- Strategy trees: every strategy that chooses by fractions, whatever it remembers, over a number of plays.
use Rattle.std.specs.Prelude.{ℕ, zero, suc, ◌-◌, ◌≡◌, ◌≤◌, ◌<◌, ℤ, length}
use Rattle.history_model.specs.declared.moves.Move.{Move}
use Rattle.history_model.specs.declared.moves.Move.TheVariants.{C, D}
use Rattle.history_model.specs.declared.moves.Play.{Play}
use Rattle.history_model.specs.Game.{Payoffs}
use Rattle.history_model.specs.Noise.{FlipRate}
use Rattle.history_model.specs.Automaton.{Automaton, next_row}
use Rattle.history_model.specs.History.{History, turned_play, turned, walk}
use Rattle.history_model.specs.Expectation.{Chooser, chooser_of, player, expectation, expected_points}

-- a weight of C, and what comes after CC, CD, DC and DD
pub data Tree : Type 0 where
  stop : Tree
  node : ℕ → Tree → Tree → Tree → Tree → Tree

abbrev pub tree_weight : Tree → ℕ
tree_weight stop = 0
tree_weight (node w cc cd dc dd) = w

abbrev pub picked : {X : Type 0} → X → X → X → X → Move → Move → X
picked cc cd dc dd C C = cc
picked cc cd dc dd C D = cd
picked cc cd dc dd D C = dc
picked cc cd dc dd D D = dd

abbrev pub tree_next : Tree → Play → Tree
tree_next stop play = stop
tree_next (node w cc cd dc dd) play = picked cc cd dc dd play.mine play.theirs

-- a tree of n plays, with weights from 0 to z
abbrev pub IsTree : ℕ → ℕ → Tree → Type 0
IsTree z zero stop = Unit {0}
IsTree z zero (node w cc cd dc dd) = ⊥
IsTree z (suc n) stop = ⊥
IsTree z (suc n) (node w cc cd dc dd) = (w ≤ z) × IsTree z n cc × IsTree z n cd × IsTree z n dc × IsTree z n dd

-- a tree as a player: after a history the weight of the node which it leads to, over z
abbrev pub tree_player : ℕ → Tree → Chooser
tree_player z tree = chooser_of z tree_weight tree_next tree

-- the expected score of a tree over n plays, over the n-th power of z * ea * den * eb
abbrev pub tree_expectation : ℕ → Tree → FlipRate → Automaton → FlipRate → Payoffs → ℕ → ℕ → ℤ
tree_expectation z tree na b nb game offset n = expectation (tree_player z tree) na (player b) nb game offset n

-- the same without an offset, as a natural number
abbrev pub tree_points : ℕ → Tree → FlipRate → Automaton → FlipRate → Payoffs → ℕ → ℕ
tree_points z tree na b nb game n = expected_points (tree_player z tree) na (player b) nb game n

-- a plan: the own move at a number of turns left and a row of the opponent
abbrev pub Plan : Type 0
Plan = ℕ → ℕ → Move

abbrev pub certain : Move → ℕ
certain C = 1
certain D = 0

-- the tree, with z = 1, that follows the plan with n turns left and the opponent at a row
abbrev pub plan_tree : Plan → Automaton → ℕ → ℕ → Tree
plan_tree plan b zero row = stop
plan_tree plan b (suc n) row =
    node (certain (plan (suc n) row))
    (plan_tree plan b n (next_row b row (turned_play (record { mine = C; theirs = C }))))
    (plan_tree plan b n (next_row b row (turned_play (record { mine = C; theirs = D }))))
    (plan_tree plan b n (next_row b row (turned_play (record { mine = D; theirs = C }))))
    (plan_tree plan b n (next_row b row (turned_play (record { mine = D; theirs = D }))))

-- the law: after k of n plays it intends the plan's move at n - k turns left and the row to which the plays led the opponent
abbrev pub PlanIsFollowed : Type 0
PlanIsFollowed =
    (plan : Plan) (b : Automaton) (n row : ℕ) (history : History) → length history < n →
    (tree_player 1 (plan_tree plan b n row)).weight history ≡ certain (plan (n - length history) (walk b row (turned history)))
