-- The four payoffs of a game, and whether they make a prisoner's dilemma (Axelrod, The Evolution of Cooperation, 1984).
use Rattle.std.specs.Prelude.{ℕ, ◌≡◌, ◌+◌, ◌*◌, ◌<◌, ◌≤◌, ℤ, pos, negsuc, ◌≤ℤ◌, min, max, refl}
use Rattle.std.proofs.Common.{arith}
use Rattle.std.proofs.lemmas.Int.{ints}
use Rattle.history_model.specs.declared.moves.Move.{Move}
use Rattle.history_model.specs.declared.moves.Move.TheVariants.{C, D}

-- what a player is paid: r for CC, s for CD, t for DC, p for DD of (own move, other's move)
pub record Payoffs : Type 0 where
  pub r : ℕ
  pub s : ℕ
  pub t : ℕ
  pub p : ℕ

abbrev pub magnitude : ℤ → ℕ
magnitude (pos n) = n
magnitude (negsuc n) = 0

pub magnitude_back : (x : ℤ) → pos 0 ≤ℤ x → pos (magnitude x) ≡ x
magnitude_back (pos n) h = refl
magnitude_back (negsuc n) h = absurd (omega (arith, ints, h))

abbrev pub payoffs_of : ℤ → ℤ → ℤ → ℤ → Payoffs
payoffs_of r s t p = record { r = magnitude r; s = magnitude s; t = magnitude t; p = magnitude p }

abbrev pub IsPayoff : ℤ → Type 0
IsPayoff x = (pos 0 ≤ℤ x) × (x ≤ℤ pos 1000000)

pub record AreInRange (r s t p : ℤ) : Type 0 where
  pub reward : IsPayoff r
  pub sucker : IsPayoff s
  pub temptation : IsPayoff t
  pub punishment : IsPayoff p

-- no payoff is above 1,000,000
pub record IsGame (game : Payoffs) : Type 0 where
  pub reward : game.r ≤ 1000000
  pub sucker : game.s ≤ 1000000
  pub temptation : game.t ≤ 1000000
  pub punishment : game.p ≤ 1000000

-- what the own move is paid against the other's
abbrev pub pay : Payoffs → Move → Move → ℕ
pay game C C = game.r
pay game C D = game.s
pay game D C = game.t
pay game D D = game.p

abbrev pub least : Payoffs → ℕ
least game = min (min (min game.r game.s) game.t) game.p

abbrev pub most : Payoffs → ℕ
most game = max (max (max game.r game.s) game.t) game.p

-- T > R > P > S and 2R > T + S
pub record IsDilemma (game : Payoffs) : Type 0 where
  pub temptation : game.r < game.t
  pub reward : game.p < game.r
  pub punishment : game.s < game.p
  pub alternation : game.t + game.s < 2 * game.r
