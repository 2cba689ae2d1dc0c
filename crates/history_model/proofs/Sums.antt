-- Sums over all histories: linear, and the one-step law of expected points.
use Rattle.std.proofs.Common.{ℕ, zero, suc, ◌+◌, ◌-◌, ◌*◌, ◌^◌, ◌≡◌, ◌≤◌, [], ◌∷◌, ◌++◌, refl, sym, ap, ◌∙◌, arith}
use Rattle.std.proofs.Math.Nat.{pow-succ', pow-zero}
use Rattle.history_model.specs.declared.moves.Move.{Move}
use Rattle.history_model.specs.declared.moves.Move.TheVariants.{C, D}
use Rattle.history_model.specs.declared.moves.Play.{Play}
use Rattle.history_model.specs.Game.{Payoffs, pay}
use Rattle.history_model.specs.Noise.{FlipRate, IsFlipRate}
use Rattle.history_model.specs.History.{History, turned, points}
use Rattle.history_model.specs.Expectation.{Chooser, IsWeighed, shown, factor, quotient, mass_after, over_plays, over_histories, MassesAddUp}

abbrev pub cc : Play
cc = record { mine = C; theirs = C }

abbrev pub cd : Play
cd = record { mine = C; theirs = D }

abbrev pub dc : Play
dc = record { mine = D; theirs = C }

abbrev pub dd : Play
dd = record { mine = D; theirs = D }

pub over_plays-same : (f g : Play → ℕ) → ((play : Play) → f play ≡ g play) → over_plays f ≡ over_plays g
over_plays-same f g e = omega (arith, e cc, e cd, e dc, e dd)

pub over_plays-times : (f : Play → ℕ) (k : ℕ) → over_plays (λ play. f play * k) ≡ over_plays f * k
over_plays-times f k = omega arith

-- a common factor comes out
over_histories-scale : (n k : ℕ) (f : History → ℕ) → over_histories n (λ rest. k * f rest) ≡ k * over_histories n f
over_histories-scale zero k f = refl
over_histories-scale (suc n) k f =
    let e : (play : Play) → over_histories n (λ rest. k * f (play ∷ rest)) ≡ k * over_histories n (λ rest. f (play ∷ rest)) = λ play. over_histories-scale n k (λ rest. f (play ∷ rest)) in
    omega (arith, e cc, e cd, e dc, e dd)

-- weights times points, where each has a part in common
over_histories-split : (n k c : ℕ) (m s : History → ℕ) →
    over_histories n (λ rest. k * m rest * (c + s rest)) ≡ k * (c * over_histories n m + over_histories n (λ rest. m rest * s rest))
over_histories-split zero k c m s = omega arith
over_histories-split (suc n) k c m s =
    let e : (play : Play) → over_histories n (λ rest. k * m (play ∷ rest) * (c + s (play ∷ rest)))
    ≡ k * (c * over_histories n (λ rest. m (play ∷ rest)) + over_histories n (λ rest. m (play ∷ rest) * s (play ∷ rest))) =
    λ play. over_histories-split n k c (λ rest. m (play ∷ rest)) (λ rest. s (play ∷ rest)) in
    omega (arith, e cc, e cd, e dc, e dd)

-- ---- the weights of one play
pub flips_within : (noise : FlipRate) → IsFlipRate noise → noise.n ≤ noise.e
flips_within noise rate = omega (arith, rate.half)

shown_sum-plain : (w k n j : ℕ) → (w * j + k * n) + (w * n + k * j) ≡ (w + k) * (n + j)
shown_sum-plain w k n j = omega arith

pub shown_sum : (noise : FlipRate) (den w : ℕ) → noise.n ≤ noise.e → w ≤ den → shown noise den w C + shown noise den w D ≡ den * noise.e
shown_sum noise den w h k =
    let rest : w + (den - w) ≡ den = omega arith in
    let kept : noise.n + (noise.e - noise.n) ≡ noise.e = omega arith in
    shown_sum-plain w (den - w) noise.n (noise.e - noise.n) ∙ ap (λ x. x * (noise.n + (noise.e - noise.n))) rest ∙ ap (λ x. den * x) kept

pub shown-within : (noise : FlipRate) (den w : ℕ) (move : Move) → noise.n ≤ noise.e → w ≤ den → shown noise den w move ≤ den * noise.e
shown-within noise den w C h k = omega (arith, shown_sum noise den w h k)
shown-within noise den w D h k = omega (arith, shown_sum noise den w h k)

four_products : (x y u v : ℕ) → x * u + x * v + y * u + y * v ≡ (x + y) * (u + v)
four_products x y u v = omega arith

-- the expected points of a from `before` on
abbrev pub points_after : Chooser → FlipRate → Chooser → FlipRate → Payoffs → History → ℕ → ℕ
points_after a na b nb game before n = over_histories n (λ rest. mass_after a na b nb before rest * points game rest)

module _ (a : Chooser) (na : FlipRate) (b : Chooser) (nb : FlipRate) (wa : IsWeighed a) (ra : IsFlipRate na) (wb : IsWeighed b) (rb : IsFlipRate nb) where
  pub factor_sum : (before : History) → over_plays (factor a na b nb before) ≡ quotient a na b nb
  factor_sum before =
      let x = shown na a.den (a.weight before) C in
      let y = shown na a.den (a.weight before) D in
      let u = shown nb b.den (b.weight (turned before)) C in
      let v = shown nb b.den (b.weight (turned before)) D in
      let left : x + y ≡ a.den * na.e = shown_sum na a.den (a.weight before) (flips_within na ra) (wa.within before) in
      let right : u + v ≡ b.den * nb.e = shown_sum nb b.den (b.weight (turned before)) (flips_within nb rb) (wb.within (turned before)) in
      four_products x y u v ∙ ap (λ s. s * (u + v)) left ∙ ap (λ s. a.den * na.e * s) right

  -- the weights of all histories of n plays add up to the n-th power of one play's denominator
  pub mass_sum : (n : ℕ) (before : History) → over_histories n (mass_after a na b nb before) ≡ quotient a na b nb ^ n
  mass_sum zero before = sym (pow-zero (quotient a na b nb))
  mass_sum (suc n) before =
      let q = quotient a na b nb in
      let f = factor a na b nb before in
      let part : (play : Play) → over_histories n (λ rest. f play * mass_after a na b nb (before ++ play ∷ []) rest) ≡ f play * q ^ n =
      λ play. over_histories-scale n (f play) (mass_after a na b nb (before ++ play ∷ [])) ∙ ap (λ x. f play * x) (mass_sum n (before ++ play ∷ [])) in
      over_plays-same _ _ part ∙ over_plays-times f (q ^ n) ∙ ap (λ x. x * q ^ n) (factor_sum before) ∙ sym (pow-succ' q n)

  pub points_after-suc : (game : Payoffs) (n : ℕ) (before : History) →
      points_after a na b nb game before (suc n)
      ≡ over_plays (λ play. factor a na b nb before play * (pay game play.mine play.theirs * quotient a na b nb ^ n + points_after a na b nb game (before ++ play ∷ []) n))
  points_after-suc game n before = over_plays-same _ _ (λ play.
      over_histories-split n (factor a na b nb before play) (pay game play.mine play.theirs) (mass_after a na b nb (before ++ play ∷ [])) (points game)
      ∙ ap (λ x. factor a na b nb before play * (pay game play.mine play.theirs * x + points_after a na b nb game (before ++ play ∷ []) n)) (mass_sum n (before ++ play ∷ [])))

pub masses_add_up_lem : MassesAddUp
masses_add_up_lem a na b nb n wa ra wb rb = mass_sum a na b nb wa ra wb rb n []
