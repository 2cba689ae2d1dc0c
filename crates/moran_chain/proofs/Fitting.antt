-- The fitness that the ranges hold is that of the definition.
use Rattle.std.proofs.Common.{ℕ, ◌+◌, ◌-◌, ◌*◌, ◌≡◌, ◌≤◌, ◌<◌, refl, arith, pos}
use Rattle.std.proofs.Math.Nat.{mul-pos}
use Rattle.fixed_span.specs.Span.{Ends, score_units}
use Rattle.scaled_span.specs.Ratios.{Same, above_zero}
use Rattle.moran_chain.specs.declared.ranges.Range.{Range}
use Rattle.moran_chain.specs.declared.ranges.Ranges.{Ranges}
use Rattle.moran_chain.specs.Fitness.{Scores, each_turn, fitness, first_payoff, second_payoff, first_fitness, second_fitness}
use Rattle.moran_chain.specs.Fixation.{worth_of}
use Rattle.moran_chain.specs.Moran.{odds, fix, AreFit}
use Rattle.moran_chain.specs.Ranges.{Worths, AllLie, first_worth, second_worth}
use Rattle.moran_chain.proofs.ChainLemmas.{lies_some}
use Rattle.moran_chain.proofs.Process.{fix_alike}
use Rattle.moran_chain.proofs.Scoring.{IsWorth, lies_common, mean_worth}

pub record IsRangeOf (wn wd turns : ℕ) (r : Range) (s : Ends) : Type 0 where
  pub lo : pos r.lo ≡ worth_of wn wd (turns * score_units) s.lo
  pub hi : pos r.hi ≡ worth_of wn wd (turns * score_units) s.hi

alike_plain : (fn gn p r fv gv t w n n' a b c d : ℕ) → fn ≡ t * p → gn ≡ t * r → fv ≡ c * d * p → gv ≡ a * b * r → n ≡ n' →
    gn * (w * (n * (t * a * (t * b)))) * fv ≡ gv * (fn * (w * (n' * (t * c * (t * d)))))
alike_plain fn gn p r fv gv t w n n' a b c d ef eg ev eu en = rw (ef, eg, ev, eu, en) (omega arith)

both_some : (j k p q x y : ℕ) → 0 < k → 0 < p → 0 < y → 0 < j * q * x + k * p * y
both_some j k p q x y kp pp yp = let s : 0 < k * p * y = mul-pos (mul-pos kp pp) yp in omega arith

den_some : (w n t a b : ℕ) → 0 < w → 0 < n → 0 < t → 0 < a → 0 < b → 0 < w * (n * (t * a * (t * b)))
den_some w n t a b wp np tp ap0 bp = mul-pos wp (mul-pos np (mul-pos (mul-pos tp ap0) (mul-pos tp bp)))

module _ (wn wd turns m : ℕ) (s : Scores) (t : Ranges) (some : 0 < turns) (positive : 0 < wd)
    (a : IsWorth t.a (worth_of wn wd (turns * s.a.denominator) s.a.numerator) s.a.denominator score_units)
    (b : IsWorth t.b (worth_of wn wd (turns * s.b.denominator) s.b.numerator) s.b.denominator score_units)
    (c : IsWorth t.c (worth_of wn wd (turns * s.c.denominator) s.c.numerator) s.c.denominator score_units)
    (d : IsWorth t.d (worth_of wn wd (turns * s.d.denominator) s.d.numerator) s.d.denominator score_units)
    (ap0 : 0 < s.a.denominator) (bp : 0 < s.b.denominator) (cp : 0 < s.c.denominator) (dp : 0 < s.d.denominator) where
  abbrev worth_a : ℕ
  worth_a = above_zero (worth_of wn wd (turns * s.a.denominator) s.a.numerator)

  abbrev worth_b : ℕ
  worth_b = above_zero (worth_of wn wd (turns * s.b.denominator) s.b.numerator)

  abbrev worth_c : ℕ
  worth_c = above_zero (worth_of wn wd (turns * s.c.denominator) s.c.numerator)

  abbrev worth_d : ℕ
  worth_d = above_zero (worth_of wn wd (turns * s.d.denominator) s.d.numerator)

  -- the worths over one denominator
  abbrev pub worths : Worths
  worths = record {
    a = worth_a * (s.b.denominator * s.c.denominator * s.d.denominator);
    b = worth_b * (s.a.denominator * s.c.denominator * s.d.denominator);
    c = worth_c * (s.a.denominator * s.b.denominator * s.d.denominator);
    d = worth_d * (s.a.denominator * s.b.denominator * s.c.denominator);
    den = s.a.denominator * s.b.denominator * s.c.denominator * s.d.denominator;
    unit = score_units;
  }

  pub all_lie : AllLie t worths
  all_lie = record {
    a = lies_common t.a worth_a s.a.denominator score_units (s.b.denominator * s.c.denominator * s.d.denominator) worths.den (omega arith) a.lies;
    b = lies_common t.b worth_b s.b.denominator score_units (s.a.denominator * s.c.denominator * s.d.denominator) worths.den (omega arith) b.lies;
    c = lies_common t.c worth_c s.c.denominator score_units (s.a.denominator * s.b.denominator * s.d.denominator) worths.den (omega arith) c.lies;
    d = lies_common t.d worth_d s.d.denominator score_units (s.a.denominator * s.b.denominator * s.c.denominator) worths.den (omega arith) d.lies;
    some = mul-pos (mul-pos (mul-pos ap0 bp) cp) dp;
    unit = omega arith;
  }

  first_num : (j : ℕ) → (fitness wn wd (first_payoff (each_turn turns s) m j)).num
      ≡ (j - 1) * (turns * s.b.denominator) * worth_a + (m - j) * (turns * s.a.denominator) * worth_b
  first_num j = mean_worth wn wd (j - 1) (m - j) (j - 1 + (m - j)) (turns * s.a.denominator) (turns * s.b.denominator) s.a.numerator s.b.numerator refl a.natural b.natural

  second_num : (j : ℕ) → (fitness wn wd (second_payoff (each_turn turns s) m j)).num
      ≡ j * (turns * s.d.denominator) * worth_c + (m - j - 1) * (turns * s.c.denominator) * worth_d
  second_num j = mean_worth wn wd j (m - j - 1) (j + (m - j - 1)) (turns * s.c.denominator) (turns * s.d.denominator) s.c.numerator s.d.numerator refl c.natural d.natural

  abbrev f : ℕ → ℕ
  f = first_fitness wn wd (each_turn turns s) m

  abbrev g : ℕ → ℕ
  g = second_fitness wn wd (each_turn turns s) m

  alike : (j : ℕ) → 0 < j → j < m → Same (odds f g j) (odds (first_worth worths m) (second_worth worths m) j)
  alike j jp below = record {
    cross = alike_plain (fitness wn wd (first_payoff (each_turn turns s) m j)).num (fitness wn wd (second_payoff (each_turn turns s) m j)).num
        ((j - 1) * s.b.denominator * worth_a + (m - j) * s.a.denominator * worth_b) (j * s.d.denominator * worth_c + (m - j - 1) * s.c.denominator * worth_d)
        (first_worth worths m j) (second_worth worths m j) turns wd (j - 1 + (m - j)) (j + (m - j - 1)) s.a.denominator s.b.denominator s.c.denominator s.d.denominator
        (omega (arith, first_num j)) (omega (arith, second_num j)) (omega arith) (omega arith) (omega arith);
  }

  pub is_fit : AreFit f g m
  is_fit = record {
    first = λ j jp below.
        let k : 0 < m - j = omega arith in
        let n : 0 < j + (m - j - 1) = omega arith in
        let p : 0 < (j - 1) * (turns * s.b.denominator) * worth_a + (m - j) * (turns * s.a.denominator) * worth_b =
        both_some (j - 1) (m - j) (turns * s.a.denominator) (turns * s.b.denominator) worth_a worth_b k (mul-pos some ap0) (lies_some t.b worth_b s.b.denominator score_units bp b.lies) in
        mul-pos (rw (first_num j) p) (den_some wd (j + (m - j - 1)) turns s.c.denominator s.d.denominator positive n some cp dp);
    second = λ j jp below.
        let n : 0 < j - 1 + (m - j) = omega arith in
        let p : 0 < (m - j - 1) * (turns * s.c.denominator) * worth_d + j * (turns * s.d.denominator) * worth_c =
        both_some (m - j - 1) j (turns * s.d.denominator) (turns * s.c.denominator) worth_d worth_c jp (mul-pos some dp) (lies_some t.c worth_c s.c.denominator score_units cp c.lies) in
        let q : 0 < j * (turns * s.d.denominator) * worth_c + (m - j - 1) * (turns * s.c.denominator) * worth_d = omega arith in
        mul-pos (rw (second_num j) q) (den_some wd (j - 1 + (m - j)) turns s.a.denominator s.b.denominator positive n some ap0 bp);
  }

  pub fix_is : (i : ℕ) → i ≤ m → Same (fix f g m i) (fix (first_worth worths m) (second_worth worths m) m i)
  fix_is i b = fix_alike f g (first_worth worths m) (second_worth worths m) m alike i b
