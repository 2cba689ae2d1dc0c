-- What a strategy tree expects from a row of its opponent, without an offset.
use Rattle.std.proofs.Common.{ℕ, zero, suc, ◌+◌, ◌*◌, ◌^◌, ◌≡◌, ◌≤◌, ◌<◌, pos, ◌-ℤ◌, [], ◌∷◌, fold, ap, ◌∙◌, arith}
use Rattle.std.proofs.lemmas.Int.{ints}
use Rattle.history_model.specs.declared.moves.Move.{Move}
use Rattle.history_model.specs.declared.moves.Move.TheVariants.{C, D}
use Rattle.history_model.specs.declared.moves.Play.{Play}
use Rattle.history_model.specs.Game.{pay}
use Rattle.history_model.specs.History.{History, turned_play}
use Rattle.history_model.specs.Automaton.{weight_at, next_row}
use Rattle.history_model.specs.Expectation.{IsWeighed, shown, over_plays, player, player_from, expected_points, MassesAddUp, OffsetLowers, AutomataAreWeighed}
use Rattle.history_model.specs.Tree.{Tree, stop, node, IsTree, tree_weight, tree_next, tree_player, picked}
use Rattle.strategy_trees.specs.Contest.{Contest, IsContest, rows}
use Rattle.strategy_trees.specs.Bounds.{tree_play, expected}
use Rattle.strategy_trees.proofs.Sums.{expected_points-step}

-- the trees after a play are trees of one play less
pub subtree : (z n w : ℕ) (cc cd dc dd : Tree) → IsTree z (suc n) (node w cc cd dc dd) → (play : Play) → IsTree z n (tree_next (node w cc cd dc dd) play)
subtree z n w cc cd dc dd h play = by_moves play.mine play.theirs
  where
    by_moves : (mine theirs : Move) → IsTree z n (picked cc cd dc dd mine theirs)
    by_moves C C = h.1
    by_moves C D = h.2
    by_moves D C = h.3
    by_moves D D = h.4

stopped : (z : ℕ) (history : History) → tree_weight (fold tree_next stop history) ≤ z
stopped z [] = omega arith
stopped z (play ∷ rest) = stopped z rest

tree-within : (z n : ℕ) (tree : Tree) → IsTree z n tree → (history : History) → tree_weight (fold tree_next tree history) ≤ z
tree-within z zero stop h history = stopped z history
tree-within z zero (node w cc cd dc dd) h history = absurd h
tree-within z (suc n) stop h history = absurd h
tree-within z (suc n) (node w cc cd dc dd) h [] = h.0
tree-within z (suc n) (node w cc cd dc dd) h (play ∷ rest) =
    tree-within z n (tree_next (node w cc cd dc dd) play) (subtree z n w cc cd dc dd h play) rest

pub tree_weighed : (z n : ℕ) (tree : Tree) → IsTree z n tree → IsWeighed (tree_player z tree)
tree_weighed z n tree h = record { within = tree-within z n tree h }

-- what a tree with weights over z expects in n turns from a row
abbrev pub points_from : Contest → ℕ → ℕ → Tree → ℕ → ℕ
points_from c z n tree row = expected_points (tree_player z tree) c.own_noise (player_from c.opponent row) c.noise c.game n

pub points_from-step : MassesAddUp → AutomataAreWeighed → (c : Contest) → IsContest c → (z n : ℕ) (tree : Tree) (row : ℕ) → IsTree z (suc n) tree → row < rows c →
    points_from c z (suc n) tree row
    ≡ over_plays (λ play. shown c.own_noise z (tree_weight tree) play.mine * shown c.noise c.opponent.den (weight_at c.opponent row) play.theirs
    * (pay c.game play.mine play.theirs * tree_play c z ^ n + points_from c z n (tree_next tree play) (next_row c.opponent row (turned_play play))))
points_from-step masses weighed c ok z n tree row h inside =
    expected_points-step masses (tree_player z tree) c.own_noise (player_from c.opponent row) c.noise c.game n
    (tree_weighed z (suc n) tree h) ok.own_rate (weighed c.opponent row ok.automaton inside) ok.rate

pub expected_is : OffsetLowers → AutomataAreWeighed → (c : Contest) → IsContest c → (z : ℕ) (tree : Tree) (offset n : ℕ) → IsTree z n tree →
    expected c z tree offset n ≡ pos (points_from c z n tree c.opponent.start) -ℤ pos (offset * n * tree_play c z ^ n)
expected_is lowers weighed c ok z tree offset n h =
    lowers (tree_player z tree) c.own_noise (player c.opponent) c.noise c.game offset n
    (tree_weighed z n tree h) ok.own_rate (weighed c.opponent c.opponent.start ok.automaton ok.automaton.started) ok.rate

pub expected_points_is : OffsetLowers → AutomataAreWeighed → (c : Contest) → IsContest c → (z : ℕ) (tree : Tree) (n : ℕ) → IsTree z n tree →
    expected c z tree 0 n ≡ pos (points_from c z n tree c.opponent.start)
expected_points_is lowers weighed c ok z tree n h =
    let none : 0 * n * tree_play c z ^ n ≡ 0 = omega arith in
    expected_is lowers weighed c ok z tree 0 n h
    ∙ ap (λ x. pos (points_from c z n tree c.opponent.start) -ℤ pos x) none
    ∙ omega (arith, ints)
