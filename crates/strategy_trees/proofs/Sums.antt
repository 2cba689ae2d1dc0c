-- Sums over all histories, and what is expected by the first play.
use Rattle.std.proofs.Common.{ℕ, zero, suc, ◌+◌, ◌*◌, ◌^◌, ◌≡◌, ◌≤◌, [], ◌∷◌, ◌++◌, refl, ap, ◌∙◌, arith}
use Rattle.history_model.specs.declared.moves.Move.TheVariants.{C, D}
use Rattle.history_model.specs.declared.moves.Play.{Play}
use Rattle.history_model.specs.Game.{Payoffs, pay}
use Rattle.history_model.specs.Noise.{FlipRate, IsFlipRate}
use Rattle.history_model.specs.History.{History, turned_play, points}
use Rattle.history_model.specs.Expectation.{Chooser, IsWeighed, factor, quotient, mass, mass_after, over_plays, over_histories, expected_points, MassesAddUp}
use Rattle.strategy_trees.specs.Strategies.{after}

abbrev pub cc : Play
cc = record { mine = C; theirs = C }

abbrev pub cd : Play
cd = record { mine = C; theirs = D }

abbrev pub dc : Play
dc = record { mine = D; theirs = C }

abbrev pub dd : Play
dd = record { mine = D; theirs = D }

pub over_plays-same : (f g : Play → ℕ) → ((play : Play) → f play ≡ g play) → over_plays f ≡ over_plays g
over_plays-same f g e = omega (arith, e cc, e cd, e dc, e dd)

pub over_plays-le : (f g : Play → ℕ) → ((play : Play) → f play ≤ g play) → over_plays f ≤ over_plays g
over_plays-le f g e = omega (arith, e cc, e cd, e dc, e dd)

pub over_plays-times : (f : Play → ℕ) (k : ℕ) → over_plays f * k ≡ over_plays (λ play. f play * k)
over_plays-times f k = omega arith

over_histories-same : (n : ℕ) (f g : History → ℕ) → ((history : History) → f history ≡ g history) → over_histories n f ≡ over_histories n g
over_histories-same zero f g e = e []
over_histories-same (suc n) f g e = over_plays-same _ _ (λ play. over_histories-same n (λ rest. f (play ∷ rest)) (λ rest. g (play ∷ rest)) (λ rest. e (play ∷ rest)))

-- weights times points, where each has a part in common
over_histories-split : (n k c : ℕ) (m s : History → ℕ) →
    over_histories n (λ rest. k * m rest * (c + s rest)) ≡ k * (c * over_histories n m + over_histories n (λ rest. m rest * s rest))
over_histories-split zero k c m s = omega arith
over_histories-split (suc n) k c m s =
    let e : (play : Play) → over_histories n (λ rest. k * m (play ∷ rest) * (c + s (play ∷ rest)))
    ≡ k * (c * over_histories n (λ rest. m (play ∷ rest)) + over_histories n (λ rest. m (play ∷ rest) * s (play ∷ rest))) =
    λ play. over_histories-split n k c (λ rest. m (play ∷ rest)) (λ rest. s (play ∷ rest)) in
    omega (arith, e cc, e cd, e dc, e dd)

mass_after-later : (a : Chooser) (na : FlipRate) (b : Chooser) (nb : FlipRate) (play : Play) (before rest : History) →
    mass_after a na b nb (play ∷ before) rest ≡ mass_after (after a play) na (after b (turned_play play)) nb before rest
mass_after-later a na b nb play before [] = refl
mass_after-later a na b nb play before (next ∷ rest) =
    ap (λ m. factor a na b nb (play ∷ before) next * m) (mass_after-later a na b nb play (before ++ next ∷ []) rest)

pub weighed_later : (a : Chooser) (play : Play) → IsWeighed a → IsWeighed (after a play)
weighed_later a play w = record { within = λ history. w.within (play ∷ history) }

-- what is expected of n + 1 plays, by the first of them
pub expected_points-step : MassesAddUp → (a : Chooser) (na : FlipRate) (b : Chooser) (nb : FlipRate) (game : Payoffs) (n : ℕ) →
    IsWeighed a → IsFlipRate na → IsWeighed b → IsFlipRate nb →
    expected_points a na b nb game (suc n)
    ≡ over_plays (λ play. factor a na b nb [] play
    * (pay game play.mine play.theirs * quotient a na b nb ^ n + expected_points (after a play) na (after b (turned_play play)) nb game n))
expected_points-step masses a na b nb game n wa ra wb rb = over_plays-same _ _ (λ play.
    let f = factor a na b nb [] play in
    let p = pay game play.mine play.theirs in
    let m : History → ℕ = mass (after a play) na (after b (turned_play play)) nb in
    over_histories-same n (λ rest. f * mass_after a na b nb (play ∷ []) rest * (p + points game rest)) (λ rest. f * m rest * (p + points game rest))
    (λ rest. ap (λ x. f * x * (p + points game rest)) (mass_after-later a na b nb play [] rest))
    ∙ over_histories-split n f p m (points game)
    ∙ ap (λ x. f * (p * x + expected_points (after a play) na (after b (turned_play play)) nb game n))
    (masses (after a play) na (after b (turned_play play)) nb n (weighed_later a play wa) ra (weighed_later b (turned_play play) wb) rb))
