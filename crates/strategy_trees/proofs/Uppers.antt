-- No strategy tree beats the uppers of a backward induction.
use Rattle.std.proofs.Common.{ℕ, zero, suc, ◌+◌, ◌-◌, ◌*◌, ◌^◌, ◌≡◌, ◌≤◌, ◌<◌, ◌⊎◌, inl, inr, pos, refl, ap, ◌∙◌, arith, subst}
use Rattle.std.proofs.lemmas.Int.{ints}
use Rattle.std.proofs.Math.Nat.{pow-succ', mul-le-mul_left, mul-le-mul_right, le_trans}
use Rattle.history_model.specs.declared.moves.Move.{Move}
use Rattle.history_model.specs.declared.moves.Move.TheVariants.{C, D}
use Rattle.history_model.specs.declared.moves.Play.{Play}
use Rattle.history_model.specs.Game.{pay}
use Rattle.history_model.specs.Noise.{FlipRate}
use Rattle.history_model.specs.History.{turned_play}
use Rattle.history_model.specs.Automaton.{weight_at, next_row}
use Rattle.history_model.specs.Expectation.{shown, over_plays, MassesAddUp, OffsetLowers, AutomataAreWeighed}
use Rattle.history_model.specs.Tree.{Tree, stop, node, IsTree, tree_next}
use Rattle.strategy_trees.specs.Contest.{Contest, IsContest, rows, one_play, seen_as, worth}
use Rattle.strategy_trees.specs.Bounds.{tree_play, NoTreeExceeds, UppersBoundTrees}
use Rattle.strategy_trees.proofs.Sums.{over_plays-same, over_plays-le, over_plays-times}
use Rattle.strategy_trees.proofs.Points.{subtree, points_from, points_from-step, expected_points_is}

play_bound : (f p q x units u : ℕ) → x * units ≤ u * q → f * (p * q + x) * units ≤ f * (p * units + u) * q
play_bound f p q x units u h = omega (arith, mul-le-mul_left f h)

by_intention : (w k a b g c q : ℕ) → (w * a + k * b) * g * c * q ≡ (w * (a * g * c) + k * (b * g * c)) * q
by_intention w k a b g c q = omega arith

over_plays-intended : (w k q : ℕ) (f g : Play → ℕ) → over_plays (λ play. (w * f play + k * g play) * q) ≡ (w * over_plays f + k * over_plays g) * q
over_plays-intended w k q f g = omega arith

at_most : (w k z x y u q : ℕ) → w + k ≡ z → x ≤ u → y ≤ u → (w * x + k * y) * q ≤ u * (z * q)
at_most w k z x y u q e h j =
    let a = mul-le-mul_left w h in let b = mul-le-mul_left k j in
    let s : w * x + k * y ≤ (w + k) * u = omega (arith, a, b) in
    let t : w * x + k * y ≤ z * u = subst (λ m. w * x + k * y ≤ m * u) e s in
    omega (arith, mul-le-mul_right q t)

shown_by_intention : (noise : FlipRate) (z w : ℕ) (move : Move) → shown noise z w move ≡ w * seen_as noise C move + (z - w) * seen_as noise D move
shown_by_intention noise z w C = refl
shown_by_intention noise z w D = refl

times_zero : (a : ℕ) → a * 0 ≡ 0
times_zero a = omega arith

reorder : (c u z e d q : ℕ) → c ≤ u * (e * d) * (z * q) → c ≤ u * (z * e * d * q)
reorder c u z e d q k = omega arith

finish : (a b c u z e d q p : ℕ) → a ≤ b → b ≡ c → c ≤ u * (e * d) * (z * q) → p ≡ z * e * d * q → a ≤ u * p
finish a b c u z e d q p h e₁ k e₂ = rw e₂ (le_trans (rw e₁ at h) (reorder c u z e d q k))

-- the uppers are at least what each move is worth at the rows that come up
pub record AreUppersWhere (Ok : ℕ → Type 0) (c : Contest) (units limit : ℕ) (upper : ℕ → ℕ → ℕ) : Type 0 where
  pub inside : (row : ℕ) → Ok row → row < rows c
  pub closed : (row : ℕ) (play : Play) → Ok row →
      (shown c.noise c.opponent.den (weight_at c.opponent row) play.theirs ≡ 0) ⊎ Ok (next_row c.opponent row (turned_play play))
  pub above : (t row : ℕ) (move : Move) → t < limit → Ok row → worth c units (upper t) row move ≤ upper (suc t) row * one_play c

module _ (masses : MassesAddUp) (weighed : AutomataAreWeighed) (Ok : ℕ → Type 0) (c : Contest) (ok : IsContest c) (units limit : ℕ) (upper : ℕ → ℕ → ℕ)
    (u : AreUppersWhere Ok c units limit upper) where
  tree-le : (z n : ℕ) (tree : Tree) (row : ℕ) → n ≤ limit → Ok row → IsTree z n tree → points_from c z n tree row * units ≤ upper n row * tree_play c z ^ n
  tree-le z zero tree row in_time here h = omega arith
  tree-le z (suc n) stop row in_time here h = absurd h
  tree-le z (suc n) (node w cc cd dc dd) row in_time here h =
      let k = z - w in
      let q = tree_play c z ^ n in
      let tree = node w cc cd dc dd in
      let theirs : Play → ℕ = λ play. shown c.noise c.opponent.den (weight_at c.opponent row) play.theirs in
      let next : Play → ℕ = λ play. next_row c.opponent row (turned_play play) in
      let f : Play → ℕ = λ play. shown c.own_noise z w play.mine * theirs play in
      let g : Play → ℕ = λ play. pay c.game play.mine play.theirs * units + upper n (next play) in
      let x : Play → ℕ = λ play. points_from c z n (tree_next tree play) (next play) in
      let each : (play : Play) → f play * (pay c.game play.mine play.theirs * q + x play) * units ≤ f play * g play * q = λ play.
      elim (u.closed row play here) [
        | inl none ↦ (let e : f play ≡ 0 = ap (λ s. shown c.own_noise z w play.mine * s) none ∙ times_zero (shown c.own_noise z w play.mine) in rw e (omega arith))
        | inr later ↦ play_bound (f play) (pay c.game play.mine play.theirs) q (x play) units (upper n (next play))
            (tree-le z n (tree_next tree play) (next play) (omega arith) later (subtree z n w cc cd dc dd h play))
      ] in
      let own : Move → Play → ℕ = λ move play. seen_as c.own_noise move play.mine * theirs play * g play in
      let parted : (play : Play) → f play * g play * q ≡ (w * own C play + k * own D play) * q = λ play.
      ap (λ s. s * theirs play * g play * q) (shown_by_intention c.own_noise z w play.mine)
      ∙ by_intention w k (seen_as c.own_noise C play.mine) (seen_as c.own_noise D play.mine) (theirs play) (g play) q in
      let total : over_plays (λ play. f play * g play * q) ≡ (w * over_plays (own C) + k * over_plays (own D)) * q =
      over_plays-same _ _ parted ∙ over_plays-intended w k q (own C) (own D) in
      let split : w + k ≡ z = let le : w ≤ z = h.0 in omega arith in
      let bound : (w * over_plays (own C) + k * over_plays (own D)) * q ≤ upper (suc n) row * one_play c * (z * q) =
      at_most w k z (over_plays (own C)) (over_plays (own D)) (upper (suc n) row * one_play c) q split (u.above n row C in_time here) (u.above n row D in_time here) in
      let first : over_plays (λ play. f play * (pay c.game play.mine play.theirs * q + x play)) * units ≤ over_plays (λ play. f play * g play * q) =
      rw (over_plays-times (λ play. f play * (pay c.game play.mine play.theirs * q + x play)) units) (over_plays-le _ _ each) in
      let step : points_from c z (suc n) tree row ≡ over_plays (λ play. f play * (pay c.game play.mine play.theirs * q + x play)) =
      points_from-step masses weighed c ok z n tree row h (u.inside row here) in
      let power : tree_play c z ^ suc n ≡ tree_play c z * q = pow-succ' (tree_play c z) n in
      rw step (finish _ _ _ (upper (suc n) row) z c.own_noise.e (c.opponent.den * c.noise.e) q _ first total bound power)

  pub uppers_bound_where : OffsetLowers → Ok c.opponent.start → NoTreeExceeds c 0 limit units (pos (upper limit c.opponent.start))
  uppers_bound_where lowers starts z tree positive h =
      let bound : points_from c z limit tree c.opponent.start * units ≤ upper limit c.opponent.start * tree_play c z ^ limit =
      tree-le z limit tree c.opponent.start (omega arith) starts h in
      rw (expected_points_is lowers weighed c ok z tree limit h) (omega (arith, ints, bound))

pub uppers_bound_trees_lem : MassesAddUp → AutomataAreWeighed → OffsetLowers → UppersBoundTrees
uppers_bound_trees_lem masses weighed lowers c units n upper ok u =
    uppers_bound_where masses weighed (λ row. row < rows c) c ok units n upper
    (record {
      inside = λ row h. h;
      closed = λ row play h. inr (ok.automaton.closed row play.theirs play.mine h);
      above = λ t row move in_time h. u.above t row move in_time h;
    }) lowers ok.automaton.started
