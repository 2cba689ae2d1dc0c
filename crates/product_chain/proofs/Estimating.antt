-- Estimates: their bounds, and how narrow they are.
use Rattle.std.proofs.Common.{ℕ, zero, suc, ◌+◌, ◌-◌, ◌*◌, ◌^◌, ◌≡◌, ◌≤◌, ◌<◌, max, refl, sym, ap, ◌∙◌, arith, subst, add-one, ◌⊎◌, inl, inr}
use Rattle.std.proofs.Math.Nat.{mul-le-mul_right, mul-le-mul_left, mul-le-mul, le_of_mul-le-mul_right, pow-succ', pow-zero, le-max_right}
use Rattle.std.proofs.lemmas.Bool.{cases_lt}
use Rattle.history_model.specs.declared.moves.Move.{Move}
use Rattle.history_model.specs.declared.moves.Move.TheVariants.{C, D}
use Rattle.history_model.specs.Automaton.{row_at, next_of}
use Rattle.history_model.specs.Game.{Payoffs, IsGame, pay, least, most}
use Rattle.fixed_span.specs.Span.{Ends, IsWithin, score_units}
use Rattle.product_chain.specs.declared.side.Side.{Side}
use Rattle.product_chain.specs.declared.estimate.Estimate.{Estimate}
use Rattle.product_chain.specs.Expected.{finest}
use Rattle.product_chain.specs.Layer.{IsSide, IsNear, own_rows, other_rows, own_weight, other_weight, one_play, plays, expected, paid, moved}
use Rattle.product_chain.specs.Scale.{IsScale, top}
use Rattle.product_chain.specs.Estimate.{IsEstimate, IsEnds, IsScore, CanEnd, from_starts}
use Rattle.product_chain.proofs.Steps.{expected_step, plays_step}
use Rattle.product_chain.proofs.Weighing.{shown_sum}

-- ---- what is expected lies between the least and the greatest payoff of each turn
pub record IsIn (low high e : ℕ) : Type 0 where
  pub least : low ≤ e
  pub most : e ≤ high

pay_in : (game : Payoffs) (mine theirs : Move) → IsIn (least game) (most game) (pay game mine theirs)
pay_in game C C = record { least = omega arith; most = omega arith }
pay_in game C D = record { least = omega arith; most = omega arith }
pay_in game D C = record { least = omega arith; most = omega arith }
pay_in game D D = record { least = omega arith; most = omega arith }

paid_in : (n low high p e y : ℕ) → IsIn low high p → IsIn (n * low * y) (n * high * y) e → IsIn ((n + 1) * low * y) ((n + 1) * high * y) (p * y + e)
paid_in n low high p e y hp he = record { least = omega (arith, mul-le-mul_right y hp.least, he.least); most = omega (arith, mul-le-mul_right y hp.most, he.most) }

mean_in : (w z q low high c d : ℕ) → w + z ≡ q → IsIn low high c → IsIn low high d → IsIn (q * low) (q * high) (w * c + z * d)
mean_in w z q low high c d sum hc hd = record {
  least = omega (arith, mul-le-mul_left w hc.least, mul-le-mul_left z hd.least, ap (λ t. t * low) sum);
  most = omega (arith, mul-le-mul_left w hc.most, mul-le-mul_left z hd.most, ap (λ t. t * high) sum);
}

module _ (s : Side) (ok : IsSide s) where
  pub expected_in : (n u v : ℕ) → u < own_rows s → v < other_rows s → IsIn (n * least s.game.now * plays s n) (n * most s.game.now * plays s n) (expected s n u v)
  expected_in zero u v hu hv = record { least = omega arith; most = omega arith }
  expected_in (suc n) u v hu hv =
      let low = least s.game.now in
      let high = most s.game.now in
      let y = plays s n in
      let p = s.own.now.den * s.own_noise.now.e in
      let q = s.other.now.den * s.other_noise.now.e in
      let own = shown_sum s.own_noise.now s.own.now.den _ ok.own_rate (ok.own.weighed u hu) in
      let other = shown_sum s.other_noise.now s.other.now.den _ ok.other_rate (ok.other.weighed v hv) in
      let one : (m t : Move) → IsIn ((n + 1) * low * y) ((n + 1) * high * y) (paid s n m t (next_of (row_at s.own.now u) m t) (next_of (row_at s.other.now v) t m)) =
      λ m t. paid_in n low high (pay s.game.now m t) (expected s n (next_of (row_at s.own.now u) m t) (next_of (row_at s.other.now v) t m)) y (pay_in s.game.now m t) (expected_in n _ _ (ok.own.closed u m t hu) (ok.other.closed v t m hv)) in
      let two : (m : Move) → IsIn (q * ((n + 1) * low * y)) (q * ((n + 1) * high * y)) (moved s n m (next_of (row_at s.own.now u) m C) (next_of (row_at s.own.now u) m D) v) =
      λ m. mean_in (other_weight s v C) (other_weight s v D) q _ _ _ _ other (one m C) (one m D) in
      let all = mean_in (own_weight s u C) (own_weight s u D) p _ _ _ _ own (two C) (two D) in
      let group : (k : ℕ) → p * (q * ((n + 1) * k * y)) ≡ suc n * k * plays s (suc n) = λ k. grouped p q (n + 1) k y ∙ ap (λ z. (n + 1) * k * z) (sym (plays_step s n)) ∙ rw add-one refl in
      record {
        least = rw (← group low, expected_step s n u v) all.least;
        most = rw (← group high, expected_step s n u v) all.most;
      }
    where
      grouped : (p q m k y : ℕ) → p * (q * (m * k * y)) ≡ m * k * (p * (q * y))
      grouped p q m k y = omega arith

  pub plays_some : (n : ℕ) → 1 ≤ plays s n
  plays_some zero = rw (pow-zero (one_play s)) (omega arith)
  plays_some (suc n) =
      let k : 1 * 1 * (1 * 1) * 1 ≤ one_play s * plays s n = mul-le-mul (mul-le-mul (mul-le-mul ok.own.some ok.own_rate.some) (mul-le-mul ok.other.some ok.other_rate.some)) (plays_some n) in
      rw (pow-succ' (one_play s) n) k

  pub start_in : (n : ℕ) → IsIn (n * least s.game.now * plays s n) (n * most s.game.now * plays s n) (from_starts s n)
  start_in n = expected_in n s.own.now.start s.other.now.start ok.own.started ok.other.started

near_top : (scale err x e y k : ℕ) → 1 ≤ y → IsNear scale 0 err x e y → e ≤ k * y → x ≤ scale * k
near_top scale err x e y k some near h = let m : x * y ≤ scale * k * y = omega (arith, near.low, mul-le-mul_left scale h) in le_of_mul-le-mul_right m some

near_bottom : (scale err x e y k : ℕ) → 1 ≤ y → IsNear scale 0 err x e y → k * y ≤ e → scale * k ≤ x + err
near_bottom scale err x e y k some near h = let m : scale * k * y ≤ (x + err) * y = omega (arith, near.high, mul-le-mul_left scale h) in le_of_mul-le-mul_right m some

-- the value of an estimate fits between its floor and its roof
pub can_end : (s : Side) (n floor roof : ℕ) (x : Estimate) → IsSide s → floor ≡ n * least s.game.now * score_units → roof ≡ n * most s.game.now * score_units → IsEstimate s n x →
    CanEnd x.value x.err x.scale floor roof
can_end s n floor roof x ok ef er right =
    let inside = start_in s ok n in
    let up : x.value ≤ x.scale * (n * most s.game.now) = near_top x.scale x.err x.value (from_starts s n) (plays s n) (n * most s.game.now) (plays_some s ok n) right.near inside.most in
    let down : x.scale * (n * least s.game.now) ≤ x.value + x.err = near_bottom x.scale x.err x.value (from_starts s n) (plays s n) (n * least s.game.now) (plays_some s ok n) right.near inside.least in
    let order : least s.game.now ≤ most s.game.now = omega arith in
    record {
      small = omega (arith, up, right.room, right.close);
      low = rw er (omega (arith, up));
      high = rw ef (omega (arith, down));
      ends = rw (ef, er) (omega (arith, mul-le-mul_left n order));
    }

within_turns : (x err scale floor roof n : ℕ) (span : Ends) → IsEnds x err scale floor roof span → 1 ≤ n → err * score_units + scale ≤ n * scale → IsWithin n span
within_turns x err scale floor roof zero span ends some h = absurd (omega arith)
within_turns x err scale floor roof (suc n) span ends some h =
    let k : err * score_units ≤ n * scale = omega (arith, h) in rw (← add-one n) (ends.narrow n k)

-- the span of an estimate
pub score_from : (s : Side) (n : ℕ) (x : Estimate) (span : Ends) → IsSide s → 1 ≤ n → IsEstimate s n x → (n ≡ 1 → x.err ≡ 0) →
    IsEnds x.value x.err x.scale (n * least s.game.now * score_units) (n * most s.game.now * score_units) span → IsScore s n span
score_from s n x span ok some right one ends =
    let inside = start_in s ok n in
    record {
      holds = ends.holds (from_starts s n) (plays s n) (plays_some s ok n) right.near (omega (arith, inside.least)) (omega (arith, inside.most));
      width = within_turns x.value x.err x.scale _ _ n span ends some right.narrow;
      narrow = λ m h. ends.narrow m (right.tight m h);
      payable = record { low = ends.low; high = ends.high };
      one_turn = λ e. ends.sharp (from_starts s n) (plays s n) (plays_some s ok n) (one e) (subst (λ z. IsNear x.scale 0 z x.value (from_starts s n) (plays s n)) (one e) right.near);
    }

-- ---- estimates with no error
most_few : (game : Payoffs) → IsGame game → most game ≤ 1000000
most_few game ok = let r = ok.reward in let s = ok.sucker in let t = ok.temptation in let p = ok.punishment in omega (arith, r, s, t, p)

pub exact_estimate : (s : Side) (n : ℕ) (x : Estimate) → IsGame s.game.now → 1 ≤ n → n ≤ 10000 → 1 ≤ x.scale → x.scale ≤ 10 ^ 12 → x.err ≡ 0 →
    x.scale * from_starts s n ≡ x.value * plays s n → IsEstimate s n x
exact_estimate s n x game some few some_scale small none e = record {
  near = record { low = omega (arith, e); high = rw none (omega (arith, e)) };
  some = some_scale;
  scaled = omega (arith, small);
  room = let k : x.scale * (n * most s.game.now) ≤ 10 ^ 12 * (10000 * 1000000) = mul-le-mul small (mul-le-mul few (most_few s.game.now game)) in omega (arith, k);
  close = omega (arith, none);
  narrow = rw none (omega (arith, mul-le-mul_right x.scale some));
  tight = λ m h. rw none (omega arith);
}

-- ---- estimates by a chain
room_from : (turns m scale room : ℕ) → turns * (max 1 m * scale) ≤ room → scale * (turns * m) ≤ room
room_from turns m scale room h =
    let k : m * scale ≤ max 1 m * scale = mul-le-mul_right scale (le-max_right 1 m) in
    omega (arith, h, mul-le-mul_left turns k)

tight_one : (n f err scale m : ℕ) → 1 ≤ n → err * score_units ≤ scale → 4 * n * score_units ≤ m * f → err * score_units ≤ m * scale
tight_one n f err scale zero some h i = absurd (omega (arith, some, i))
tight_one n f err scale (suc m) some h i = omega (arith, h)

scale_within : (n t scale room : ℕ) → 1 ≤ n → 1 ≤ t → n * (t * scale) ≤ room → scale ≤ room
scale_within n t scale room h k fits = let j : 1 * (1 * scale) ≤ n * (t * scale) = mul-le-mul h (mul-le-mul_right scale k) in omega (arith, j, fits)

-- what a cell exceeds is taken off
shifted_near : (scale n x z e y : ℕ) → (x < 2 * n) ⊎ (2 * n ≤ x) → z ≡ x - 2 * n → IsNear scale (2 * n) (4 * n) x e y → IsNear scale 0 (6 * n) z e y
shifted_near scale n x z e y (inl h) is near =
    let none : z ≡ 0 = omega (arith, is, h) in
    let k : x * y ≤ 2 * n * y = mul-le-mul_right y (omega (arith, h)) in
    rw none (record { low = omega arith; high = omega (arith, near.high, k) })
shifted_near scale n x z e y (inr h) is near =
    let back : x ≡ z + 2 * n = omega (arith, is, h) in
    let k : x * y ≡ (z + 2 * n) * y = ap (λ t. t * y) back in
    record { low = omega (arith, near.low, k); high = omega (arith, near.high, k) }

pub slim_estimate_from : (s : Side) (n cell : ℕ) (x : Estimate) → 2 ≤ n → n ≤ 10000 → IsScale s.game.now n (2 ^ 63 - 1) x.scale → 6 * n * score_units ≤ x.scale →
    x.value ≡ cell - 2 * n → x.err ≡ 6 * n → IsNear x.scale (2 * n) (4 * n) cell (from_starts s n) (plays s n) → IsEstimate s n x
slim_estimate_from s n cell x some few scaled enough value err near =
    let room = room_from n (most s.game.now) x.scale (2 ^ 63 - 1) scaled.fits in
    let within : x.err * score_units ≤ x.scale = rw err enough in
    record {
      near = rw err (shifted_near x.scale n cell x.value (from_starts s n) (plays s n) (cases_lt cell (2 * n)) value near);
      some = omega (arith, some, enough);
      scaled = omega (arith, scale_within n (top s.game.now) x.scale (2 ^ 63 - 1) (omega (arith, some)) (omega arith) scaled.fits);
      room = omega (arith, room);
      close = omega (arith, err, few);
      narrow = omega (arith, within, mul-le-mul_right x.scale some);
      tight = λ m h. tight_one n (finest s.game.now n) x.err x.scale m (omega (arith, some)) within h;
    }

narrow_from : (n scale : ℕ) → 2 ≤ n → 10 ^ 15 ≤ scale → 4 * n * score_units + scale ≤ n * scale
narrow_from zero scale h i = absurd (omega arith)
narrow_from (suc t) scale h i = let k : t * 10 ^ 15 ≤ t * scale = mul-le-mul_left t i in omega (arith, k)

pub wide_estimate_from : (s : Side) (n : ℕ) (x : Estimate) → 2 ≤ n → n ≤ 10000 → IsScale s.game.now n (2 ^ 86) x.scale →
    x.err ≡ 4 * n → IsNear x.scale 0 (4 * n) x.value (from_starts s n) (plays s n) → IsEstimate s n x
wide_estimate_from s n x some few scaled err near =
    let room = room_from n (most s.game.now) x.scale (2 ^ 86) scaled.fits in
    let fine : 10 ^ 15 ≤ x.scale = omega (arith, scaled.fine) in
    record {
      near = rw err near;
      some = omega (arith, fine);
      scaled = scale_within n (top s.game.now) x.scale (2 ^ 86) (omega (arith, some)) (omega arith) scaled.fits;
      room = room;
      close = omega (arith, err, few);
      narrow = rw err (narrow_from n x.scale some fine);
      tight = λ m h. rw err (omega (arith, h, ap (λ z. m * z) scaled.exact));
    }
