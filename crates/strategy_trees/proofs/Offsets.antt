-- An offset lowers what trees expect, and their bounds.
use Rattle.std.proofs.Common.{ℕ, ◌*◌, ◌^◌, ◌≡◌, ℤ, pos, ◌-ℤ◌, ◌*ℤ◌, ◌≤ℤ◌, ap, ◌∙◌, sym, arith}
use Rattle.std.proofs.lemmas.Int.{ints}
use Rattle.history_model.specs.Expectation.{OffsetLowers, AutomataAreWeighed}
use Rattle.history_model.specs.Tree.{plan_tree}
use Rattle.strategy_trees.specs.Bounds.{tree_play, expected, OffsetLowersTrees, BoundsAreLowered}
use Rattle.strategy_trees.specs.Strategies.{PlansAreTrees}
use Rattle.strategy_trees.proofs.Signed.{*ℤ--ℤ, -ℤ-*ℤ, pos-*ℤ}
use Rattle.strategy_trees.proofs.Points.{expected_is, expected_points_is}

pub offset_lowers_trees_lem : OffsetLowers → AutomataAreWeighed → OffsetLowersTrees
offset_lowers_trees_lem lowers weighed c z tree offset n ok h =
    expected_is lowers weighed c ok z tree offset n h
    ∙ ap (λ x. x -ℤ pos (offset * n * tree_play c z ^ n)) (sym (expected_points_is lowers weighed c ok z tree n h))

-- a product with a difference
times_less : (m k : ℕ) (x : ℤ) → pos m *ℤ (x -ℤ pos k) ≡ pos m *ℤ x -ℤ pos (m * k)
times_less m k x = *ℤ--ℤ (pos m) x (pos k) ∙ ap (λ y. pos m *ℤ x -ℤ y) (pos-*ℤ m k)

less_times : (m k : ℕ) (x : ℤ) → (x -ℤ pos k) *ℤ pos m ≡ x *ℤ pos m -ℤ pos (k * m)
less_times m k x = -ℤ-*ℤ x (pos k) (pos m) ∙ ap (λ y. x *ℤ pos m -ℤ y) (pos-*ℤ k m)

same_product : (u o n q : ℕ) → u * (o * n * q) ≡ o * n * u * q
same_product u o n q = omega arith

-- both sides less by the same
lower_le : (u o n q : ℕ) (x y hi : ℤ) → x ≡ y -ℤ pos (o * n * q) → (pos u *ℤ y) ≤ℤ (hi *ℤ pos q) → (pos u *ℤ x) ≤ℤ ((hi -ℤ pos (o * n * u)) *ℤ pos q)
lower_le u o n q x y hi e h =
    rw (e, times_less u (o * n * q) y, less_times q (o * n * u) hi, same_product u o n q) (omega (arith, ints, h))

lower_ge : (u o n q : ℕ) (x y lo : ℤ) → x ≡ y -ℤ pos (o * n * q) → (lo *ℤ pos q) ≤ℤ (pos u *ℤ y) → ((lo -ℤ pos (o * n * u)) *ℤ pos q) ≤ℤ (pos u *ℤ x)
lower_ge u o n q x y lo e h =
    rw (e, times_less u (o * n * q) y, less_times q (o * n * u) lo, same_product u o n q) (omega (arith, ints, h))

pub bounds_are_lowered_lem : OffsetLowersTrees → PlansAreTrees → BoundsAreLowered
bounds_are_lowered_lem lowers plans c plan offset n units lo hi ok = record {
  exceeds = λ bound z tree positive h.
      lower_le units offset n (tree_play c z ^ n) (expected c z tree offset n) (expected c z tree 0 n) hi (lowers c z tree offset n ok h) (bound z tree positive h);
  attains = λ bound.
      (let tree = plan_tree plan c.opponent n c.opponent.start in
      lower_ge units offset n (tree_play c 1 ^ n) (expected c 1 tree offset n) (expected c 1 tree 0 n) lo
      (lowers c 1 tree offset n ok (plans plan c.opponent n c.opponent.start)) bound);
}
