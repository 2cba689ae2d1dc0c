-- The tree of a plan attains the lowers of a backward induction.
use Rattle.std.proofs.Common.{ℕ, zero, suc, ◌+◌, ◌*◌, ◌^◌, ◌≡◌, ◌≤◌, ◌<◌, refl, ap, ◌∙◌, arith}
use Rattle.std.proofs.lemmas.Int.{ints}
use Rattle.std.proofs.Math.Nat.{pow-succ', mul-le-mul_left, mul-le-mul_right}
use Rattle.history_model.specs.declared.moves.Move.{Move}
use Rattle.history_model.specs.declared.moves.Move.TheVariants.{C, D}
use Rattle.history_model.specs.declared.moves.Play.{Play}
use Rattle.history_model.specs.Game.{pay}
use Rattle.history_model.specs.Noise.{FlipRate}
use Rattle.history_model.specs.History.{turned_play}
use Rattle.history_model.specs.Automaton.{Automaton, weight_at, next_row}
use Rattle.history_model.specs.Expectation.{shown, over_plays, MassesAddUp, OffsetLowers, AutomataAreWeighed}
use Rattle.history_model.specs.Tree.{tree_next, Plan, certain, plan_tree}
use Rattle.strategy_trees.specs.Contest.{Contest, IsContest, rows, seen_as}
use Rattle.strategy_trees.specs.Bounds.{tree_play, AreLowers, LowersAreAttained}
use Rattle.strategy_trees.specs.Strategies.{PlansAreTrees}
use Rattle.strategy_trees.proofs.Sums.{over_plays-same, over_plays-le, over_plays-times}
use Rattle.strategy_trees.proofs.Points.{points_from, points_from-step, expected_points_is}

certain-le : (move : Move) → certain move ≤ 1
certain-le C = omega arith
certain-le D = omega arith

pub plans_are_trees_lem : PlansAreTrees
plans_are_trees_lem plan b zero row = tt
plans_are_trees_lem plan b (suc n) row = (
  certain-le (plan (suc n) row),
  plans_are_trees_lem plan b n _,
  plans_are_trees_lem plan b n _,
  plans_are_trees_lem plan b n _,
  plans_are_trees_lem plan b n _,
)

plan_tree-next : (plan : Plan) (b : Automaton) (n row : ℕ) (play : Play) → tree_next (plan_tree plan b (suc n) row) play ≡ plan_tree plan b n (next_row b row (turned_play play))
plan_tree-next plan b n row play = by_moves play.mine play.theirs
  where
    by_moves : (mine theirs : Move) → tree_next (plan_tree plan b (suc n) row) (record { mine = mine; theirs = theirs })
        ≡ plan_tree plan b n (next_row b row (record { mine = theirs; theirs = mine }))
    by_moves C C = refl
    by_moves C D = refl
    by_moves D C = refl
    by_moves D D = refl

shown_certain : (noise : FlipRate) (intended move : Move) → shown noise 1 (certain intended) move ≡ seen_as noise intended move
shown_certain noise C C = omega arith
shown_certain noise C D = omega arith
shown_certain noise D C = omega arith
shown_certain noise D D = omega arith

play_floor : (f p q x units u : ℕ) → u * q ≤ x * units → f * (p * units + u) * q ≤ f * (p * q + x) * units
play_floor f p q x units u h = omega (arith, mul-le-mul_left f h)

finish : (l e d q v t : ℕ) → l * (e * d) * q ≤ v → v ≤ t → l * (1 * e * d * q) ≤ t
finish l e d q v t h j = omega arith

module _ (masses : MassesAddUp) (weighed : AutomataAreWeighed) (c : Contest) (ok : IsContest c) (units limit : ℕ) (plan : Plan) (lower : ℕ → ℕ → ℕ)
    (l : AreLowers c units limit plan lower) where
  attained : (n row : ℕ) → n ≤ limit → row < rows c → lower n row * tree_play c 1 ^ n ≤ points_from c 1 n (plan_tree plan c.opponent n row) row * units
  attained zero row in_time h = let e : lower 0 row ≡ 0 = l.none row h in rw e (omega arith)
  attained (suc n) row in_time h =
      let q = tree_play c 1 ^ n in
      let move = plan (suc n) row in
      let theirs : Play → ℕ = λ play. shown c.noise c.opponent.den (weight_at c.opponent row) play.theirs in
      let next : Play → ℕ = λ play. next_row c.opponent row (turned_play play) in
      let x : Play → ℕ = λ play. points_from c 1 n (plan_tree plan c.opponent n (next play)) (next play) in
      let f : Play → ℕ = λ play. seen_as c.own_noise move play.mine * theirs play in
      let each : (play : Play) → f play * (pay c.game play.mine play.theirs * units + lower n (next play)) * q ≤ f play * (pay c.game play.mine play.theirs * q + x play) * units = λ play.
      play_floor (f play) (pay c.game play.mine play.theirs) q (x play) units (lower n (next play))
      (attained n (next play) (omega arith) (ok.automaton.closed row play.theirs play.mine h)) in
      let tree : points_from c 1 (suc n) (plan_tree plan c.opponent (suc n) row) row ≡ over_plays (λ play. f play * (pay c.game play.mine play.theirs * q + x play)) =
      points_from-step masses weighed c ok 1 n (plan_tree plan c.opponent (suc n) row) row (plans_are_trees_lem plan c.opponent (suc n) row) h
      ∙ over_plays-same _ _ (λ play.
      ap (λ s. s * theirs play * (pay c.game play.mine play.theirs * q + points_from c 1 n (tree_next (plan_tree plan c.opponent (suc n) row) play) (next play))) (shown_certain c.own_noise move play.mine)
      ∙ ap (λ t. f play * (pay c.game play.mine play.theirs * q + points_from c 1 n t (next play))) (plan_tree-next plan c.opponent n row play)) in
      let sums : over_plays (λ play. f play * (pay c.game play.mine play.theirs * units + lower n (next play))) * q ≤ over_plays (λ play. f play * (pay c.game play.mine play.theirs * q + x play)) * units =
      rw (
        over_plays-times (λ play. f play * (pay c.game play.mine play.theirs * units + lower n (next play))) q,
        over_plays-times (λ play. f play * (pay c.game play.mine play.theirs * q + x play)) units,
      ) (over_plays-le _ _ each) in
      let power : tree_play c 1 ^ suc n ≡ tree_play c 1 * q = pow-succ' (tree_play c 1) n in
      rw (tree, power) (finish (lower (suc n) row) c.own_noise.e (c.opponent.den * c.noise.e) q _ _ (mul-le-mul_right q (l.below n row in_time h)) sums)

pub lowers_are_attained_lem : MassesAddUp → AutomataAreWeighed → OffsetLowers → LowersAreAttained
lowers_are_attained_lem masses weighed lowers c units n plan lower ok l =
    let start = c.opponent.start in
    let tree = plan_tree plan c.opponent n start in
    let bound : lower n start * tree_play c 1 ^ n ≤ points_from c 1 n tree start * units =
    attained masses weighed c ok units n plan lower l n start (omega arith) ok.automaton.started in
    rw (expected_points_is lowers weighed c ok 1 tree n (plans_are_trees_lem plan c.opponent n start)) (omega (arith, ints, bound))
