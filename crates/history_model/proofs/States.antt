-- Expected points of players that move from state to state, by a recursion over pairs of states.
use Rattle.std.proofs.Common.{ℕ, zero, suc, ◌+◌, ◌*◌, ◌^◌, ◌≡◌, [], ◌∷◌, ◌++◌, refl, ap, ◌∙◌, fold}
use Rattle.std.proofs.lemmas.List.Sums.{fold_push}
use Rattle.history_model.specs.declared.moves.Play.{Play}
use Rattle.history_model.specs.Game.{Payoffs, pay}
use Rattle.history_model.specs.Noise.{FlipRate, IsFlipRate}
use Rattle.history_model.specs.History.{History, turned_play, turned}
use Rattle.history_model.specs.Expectation.{Chooser, IsWeighed, chooser_of, shown, factor, quotient, over_plays, expected_points}
use Rattle.history_model.proofs.Sums.{over_plays-same, points_after, points_after-suc}

turned_push : (history : History) (play : Play) → turned (history ++ play ∷ []) ≡ turned history ++ turned_play play ∷ []
turned_push [] play = refl
turned_push (first ∷ rest) play = ap (λ t. turned_play first ∷ t) (turned_push rest play)

module _ {S R : Type 0} (da : ℕ) (wa : S → ℕ) (sa : S → Play → S) (na : FlipRate) (db : ℕ) (wb : R → ℕ) (sb : R → Play → R) (nb : FlipRate) (game : Payoffs) where
  -- the expected points from a pair of states, by the first play
  abbrev pub by_states : ℕ → S → R → ℕ
  by_states zero s r = 0
  by_states (suc n) s r =
      over_plays (λ play. shown na da (wa s) play.mine * shown nb db (wb r) play.theirs
      * (pay game play.mine play.theirs * (da * na.e * (db * nb.e)) ^ n + by_states n (sa s play) (sb r (turned_play play))))

  module _ (s : S) (r : R) (ia : IsWeighed (chooser_of da wa sa s)) (ra : IsFlipRate na) (ib : IsWeighed (chooser_of db wb sb r)) (rb : IsFlipRate nb) where
    abbrev a : Chooser
    a = chooser_of da wa sa s

    abbrev b : Chooser
    b = chooser_of db wb sb r

    pub points_after-by_states : (n : ℕ) (before : History) → points_after a na b nb game before n ≡ by_states n (fold sa s before) (fold sb r (turned before))
    points_after-by_states zero before = refl
    points_after-by_states (suc n) before =
        points_after-suc a na b nb ia ra ib rb game n before
        ∙ over_plays-same _ _ (λ play.
        let left = fold_push sa s before play in
        let right = ap (fold sb r) (turned_push before play) ∙ fold_push sb r (turned before) (turned_play play) in
        let same : points_after a na b nb game (before ++ play ∷ []) n ≡ by_states n (sa (fold sa s before) play) (sb (fold sb r (turned before)) (turned_play play)) =
        points_after-by_states n (before ++ play ∷ [])
        ∙ ap (λ x. by_states n x (fold sb r (turned (before ++ play ∷ [])))) left
        ∙ ap (λ x. by_states n (sa (fold sa s before) play) x) right in
        ap (λ x. factor a na b nb before play * (pay game play.mine play.theirs * quotient a na b nb ^ n + x)) same)

    pub expected_points-by_states : (n : ℕ) → expected_points a na b nb game n ≡ by_states n s r
    expected_points-by_states n = points_after-by_states n []
