-- An expectation rests on nothing but the weights after each history.
use Rattle.std.proofs.Common.{ℕ, zero, suc, ◌≡◌, ℤ, pos, ◌*ℤ◌, [], ◌∷◌, ◌++◌, refl, ap}
use Rattle.history_model.specs.declared.moves.Play.{Play}
use Rattle.history_model.specs.Noise.{FlipRate}
use Rattle.history_model.specs.History.{History, turned, score}
use Rattle.history_model.specs.Expectation.{Chooser, ChooseAlike, mass_after, signed_over_histories, WeightsDecide}
use Rattle.history_model.proofs.Sums.{cc, cd, dc, dd}

signed_over_histories-same : (n : ℕ) (f g : History → ℤ) → ((history : History) → f history ≡ g history) → signed_over_histories n f ≡ signed_over_histories n g
signed_over_histories-same zero f g e = e []
signed_over_histories-same (suc n) f g e =
    let part : (play : Play) → signed_over_histories n (λ rest. f (play ∷ rest)) ≡ signed_over_histories n (λ rest. g (play ∷ rest)) =
    λ play. signed_over_histories-same n _ _ (λ rest. e (play ∷ rest)) in
    rw (part cc, part cd, part dc, part dd) refl

mass_after-same : (a c : Chooser) (na : FlipRate) (b d : Chooser) (nb : FlipRate) → ChooseAlike a c → ChooseAlike b d → (before history : History)
    → mass_after a na b nb before history ≡ mass_after c na d nb before history
mass_after-same a c na b d nb ac bd before [] = refl
mass_after-same a c na b d nb ac bd before (play ∷ rest) =
    rw (ac.den, bd.den, ac.weight before, bd.weight (turned before), mass_after-same a c na b d nb ac bd (before ++ play ∷ []) rest) refl

pub weights_decide_lem : WeightsDecide
weights_decide_lem a c na b d nb game offset n ac bd =
    signed_over_histories-same n _ _ (λ history. ap (λ m. pos m *ℤ score game offset history) (mass_after-same a c na b d nb ac bd [] history))
