-- An offset lowers an expectation by a fixed number.
use Rattle.std.proofs.Common.{ℕ, zero, suc, ◌+◌, ◌*◌, ◌^◌, ◌≡◌, ℤ, pos, ◌+ℤ◌, ◌-ℤ◌, ◌*ℤ◌, neg_ℤ, [], ◌∷◌, length, sym, ap, ◌∙◌, arith}
use Rattle.std.proofs.lemmas.Int.{ints}
use borrow.Author.Differences.{up, down, product_is, sum_is_lem, neg_is}
use Rattle.history_model.specs.declared.moves.Play.{Play}
use Rattle.history_model.specs.Game.{Payoffs}
use Rattle.history_model.specs.History.{History, points, score}
use Rattle.history_model.specs.Expectation.{mass, over_histories, signed_over_histories, expected_points, quotient, OffsetLowers}
use Rattle.history_model.proofs.Sums.{cc, cd, dc, dd, masses_add_up_lem}

*ℤ-+ℤ : (a b c : ℤ) → a *ℤ (b +ℤ c) ≡ a *ℤ b +ℤ a *ℤ c
*ℤ-+ℤ a b c = let e = sum_is_lem b c in omega (arith, ints, ap (λ x. up a * x) e, ap (λ x. down a * x) e)

score_is : (game : Payoffs) (offset : ℕ) (history : History) → score game offset history ≡ pos (points game history) -ℤ pos (offset * length history)
score_is game offset [] = omega (arith, ints)
score_is game offset (play ∷ rest) = omega (arith, ints, score_is game offset rest)

one_term : (m s t : ℕ) (z : ℤ) → z ≡ pos s -ℤ pos t → pos m *ℤ z ≡ pos (m * s) -ℤ pos (t * m)
one_term m s t z e =
    let f = product_is (pos m) (neg_ℤ (pos t)) in
    let g = neg_is (pos t) in
    ap (λ x. pos m *ℤ x) e ∙ *ℤ-+ℤ (pos m) (pos s) (neg_ℤ (pos t)) ∙ omega (arith, ints, f.0, f.1, ap (λ x. m * x) g.0, ap (λ x. m * x) g.1)

-- weights times signed scores, each of which is less by c and by the offset for each play
lowered : (n offset c : ℕ) (m s : History → ℕ) (z : History → ℤ) → ((history : History) → z history ≡ pos (s history) -ℤ pos (c + offset * length history)) →
    signed_over_histories n (λ history. pos (m history) *ℤ z history)
    ≡ pos (over_histories n (λ history. m history * s history)) -ℤ pos ((c + offset * n) * over_histories n m)
lowered zero offset c m s z e = one_term (m []) (s []) (c + offset * 0) (z []) (e [])
lowered (suc n) offset c m s z e =
    let shifted : (k : ℕ) → c + offset * suc k ≡ c + offset + offset * k = λ k. omega arith in
    let ih : (play : Play) → signed_over_histories n (λ rest. pos (m (play ∷ rest)) *ℤ z (play ∷ rest))
    ≡ pos (over_histories n (λ rest. m (play ∷ rest) * s (play ∷ rest))) -ℤ pos ((c + offset + offset * n) * over_histories n (λ rest. m (play ∷ rest))) =
    λ play. lowered n offset (c + offset) (λ rest. m (play ∷ rest)) (λ rest. s (play ∷ rest)) (λ rest. z (play ∷ rest))
    (λ rest. e (play ∷ rest) ∙ ap (λ x. pos (s (play ∷ rest)) -ℤ pos x) (shifted (length rest))) in
    omega (arith, ints, ih cc, ih cd, ih dc, ih dd)

pub offset_lowers_lem : OffsetLowers
offset_lowers_lem a na b nb game offset n wa ra wb rb =
    let from_zero : (x : ℕ) → x ≡ 0 + x = λ x. omega arith in
    let whole = expected_points a na b nb game n in
    lowered n offset 0 (mass a na b nb) (points game) (score game offset)
    (λ history. score_is game offset history ∙ ap (λ x. pos (points game history) -ℤ pos x) (from_zero (offset * length history)))
    ∙ ap (λ x. pos whole -ℤ pos ((0 + offset * n) * x)) (masses_add_up_lem a na b nb n wa ra wb rb)
    ∙ ap (λ x. pos whole -ℤ pos (x * quotient a na b nb ^ n)) (sym (from_zero (offset * n)))
