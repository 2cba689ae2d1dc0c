-- Weights of moves.
use Rattle.std.proofs.Common.{ℕ, ◌+◌, ◌-◌, ◌*◌, ◌≡◌, ◌≤◌, arith, ap, ◌∙◌}
use Rattle.std.proofs.Math.Nat.{mul-le-mul}
use Rattle.history_model.specs.declared.moves.Move.{Move}
use Rattle.history_model.specs.declared.moves.Move.TheVariants.{C, D}
use Rattle.history_model.specs.Noise.{FlipRate, IsFlipRate}
use Rattle.history_model.specs.Expectation.{shown}
use Rattle.strategy_trees.specs.Contest.{seen_as}

sum_plain : (w k n j : ℕ) → (w * j + k * n) + (w * n + k * j) ≡ (w + k) * (n + j)
sum_plain w k n j = omega arith

-- the weights of both moves add up
pub shown_sum : (noise : FlipRate) (den w : ℕ) → IsFlipRate noise → w ≤ den → shown noise den w C + shown noise den w D ≡ den * noise.e
shown_sum noise den w rate h =
    let rest : w + (den - w) ≡ den = omega arith in
    let kept : noise.n + (noise.e - noise.n) ≡ noise.e = omega (arith, rate.half) in
    sum_plain w (den - w) noise.n (noise.e - noise.n) ∙ ap (λ x. x * (noise.n + (noise.e - noise.n))) rest ∙ ap (λ x. den * x) kept

pub shown_few : (noise : FlipRate) (den w : ℕ) → IsFlipRate noise → w ≤ den → den ≤ 1000 → shown noise den w C + shown noise den w D ≤ 1000000
shown_few noise den w rate h few =
    let k : den * noise.e ≤ 1000 * 1000 = mul-le-mul few rate.few in omega (arith, k, shown_sum noise den w rate h)

pub seen_sum : (noise : FlipRate) (move : Move) → IsFlipRate noise → seen_as noise move C + seen_as noise move D ≡ noise.e
seen_sum noise C rate = omega (arith, rate.half)
seen_sum noise D rate = omega (arith, rate.half)
