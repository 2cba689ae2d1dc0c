-- Sure matches, and single turns.
use Rattle.std.proofs.Common.{ℕ, zero, suc, ◌+◌, ◌-◌, ◌*◌, ◌≡◌, ◌<◌, ◌⊎◌, inl, inr, ◌==◌, if◌then◌else◌, refl, sym, ap, ◌∙◌, arith, subst}
use Rattle.std.proofs.lemmas.Bool.Decides.{nat_tests}
use Rattle.std.proofs.Math.Nat.{pow-succ', pow-zero}
use Rattle.history_model.specs.declared.moves.Move.{Move}
use Rattle.history_model.specs.declared.moves.Move.TheVariants.{C, D}
use Rattle.history_model.specs.Automaton.{Automaton, weight_at, row_at, next_of}
use Rattle.history_model.specs.Noise.{FlipRate}
use Rattle.history_model.specs.Game.{pay}
use Rattle.history_model.specs.Expectation.{shown}
use Rattle.history_model.specs.Path.{sure_move}
use Rattle.product_chain.specs.declared.side.Side.{Side}
use Rattle.product_chain.specs.Layer.{IsSide, own_rows, other_rows, own_weight, other_weight, one_play, plays, expected, paid}
use Rattle.product_chain.specs.Estimate.{sure_points, IsSureSide}
use Rattle.product_chain.proofs.Steps.{expected_step}

-- a turn along the path
pub sure_step : (s : Side) (turns n u v total p u' v' all : ℕ) (mine theirs : Move) → n < turns → mine ≡ sure_move s.own.now u → theirs ≡ sure_move s.other.now v →
    p ≡ pay s.game.now mine theirs → u' ≡ next_of (row_at s.own.now u) mine theirs → v' ≡ next_of (row_at s.other.now v) theirs mine →
    total + sure_points s (turns - n) u v ≡ all → total + p + sure_points s (turns - (n + 1)) u' v' ≡ all
sure_step s turns n u v total p u' v' all mine theirs later em et ep eu ev h =
    let k = turns - (n + 1) in
    let e : turns - n ≡ suc k = omega arith in
    let h' : total + sure_points s (suc k) u v ≡ all = subst (λ z. total + sure_points s z u v ≡ all) e h in
    let m = sure_move s.own.now u in
    let t = sure_move s.other.now v in
    let first : pay s.game.now m t + sure_points s k (next_of (row_at s.own.now u) m t) (next_of (row_at s.other.now v) t m) ≡ p + sure_points s k u' v' =
    rw (ep, eu, ev, em, et) refl in
    omega (arith, h', first)

-- ---- moves that are sure
-- q where the move is the sure one, and nothing else
abbrev pub only : ℕ → Move → Move → ℕ
only q C C = q
only q C D = 0
only q D C = 0
only q D D = q

move_none : (w den : ℕ) → w ≡ 0 → 0 < den → (if w == den then C else D) ≡ D
move_none w den e h = grind (arith, nat_tests)

move_all : (w den : ℕ) → w ≡ den → (if w == den then C else D) ≡ C
move_all w den e = grind (arith, nat_tests)

less_none : (a : ℕ) → a - 0 ≡ a
less_none a = omega arith

shown_none : (noise : FlipRate) (den w : ℕ) → noise.n ≡ 0 → w ≡ 0 → (x : Move) → shown noise den w x ≡ only (den * noise.e) D x
shown_none noise den w n e C = rw (n, e) (omega arith)
shown_none noise den w n e D = rw (n, e) (rw (less_none den, less_none noise.e) (omega arith))

shown_all : (noise : FlipRate) (den w : ℕ) → noise.n ≡ 0 → w ≡ den → (x : Move) → shown noise den w x ≡ only (den * noise.e) C x
shown_all noise den w n e C = rw (n, e) (let z : den - den ≡ 0 = omega arith in rw (z, less_none noise.e) (omega arith))
shown_all noise den w n e D = rw (n, e) (let z : den - den ≡ 0 = omega arith in rw z (omega arith))

shown_sure : (a : Automaton) (noise : FlipRate) (row : ℕ) → noise.n ≡ 0 → 0 < a.den → (weight_at a row ≡ 0) ⊎ (weight_at a row ≡ a.den) →
    (x : Move) → shown noise a.den (weight_at a row) x ≡ only (a.den * noise.e) (sure_move a row) x
shown_sure a noise row n h (inl e) x = shown_none noise a.den (weight_at a row) n e x ∙ ap (λ m. only (a.den * noise.e) m x) (sym (move_none (weight_at a row) a.den e h))
shown_sure a noise row n h (inr e) x = shown_all noise a.den (weight_at a row) n e x ∙ ap (λ m. only (a.den * noise.e) m x) (sym (move_all (weight_at a row) a.den e))

-- of the four plays one is left
one_left : (p q : ℕ) (m t : Move) (f : Move → Move → ℕ) →
    only p m C * (only q t C * f C C + only q t D * f C D) + only p m D * (only q t C * f D C + only q t D * f D D) ≡ p * q * f m t
one_left p q C C f = omega arith
one_left p q C D f = omega arith
one_left p q D C f = omega arith
one_left p q D D f = omega arith

gather : (q p y s : ℕ) → q * (p * y + s * y) ≡ (p + s) * (q * y)
gather q p y s = omega arith

-- what a side expects of a sure match are the points of the path
pub sure_expected : (s : Side) → IsSide s → IsSureSide s → (n u v : ℕ) → u < own_rows s → v < other_rows s → expected s n u v ≡ sure_points s n u v * plays s n
sure_expected s ok sure zero u v hu hv = omega arith
sure_expected s ok sure (suc n) u v hu hv =
    let a = s.own.now in
    let b = s.other.now in
    let m = sure_move a u in
    let t = sure_move b v in
    let f : Move → Move → ℕ = λ x y. paid s n x y (next_of (row_at a u) x y) (next_of (row_at b v) y x) in
    let p = a.den * s.own_noise.now.e in
    let q = b.den * s.other_noise.now.e in
    let own = shown_sure a s.own_noise.now u sure.left_still ok.own.some (sure.left u hu) in
    let other = shown_sure b s.other_noise.now v sure.right_still ok.other.some (sure.right v hv) in
    let ih : expected s n (next_of (row_at a u) m t) (next_of (row_at b v) t m) ≡ sure_points s n (next_of (row_at a u) m t) (next_of (row_at b v) t m) * plays s n =
    sure_expected s ok sure n _ _ (ok.own.closed u m t hu) (ok.other.closed v t m hv) in
    let sum : ℕ → ℕ → ℕ → ℕ → ℕ = λ c d k l. c * (k * f C C + l * f C D) + d * (k * f D C + l * f D D) in
    let same : expected s (suc n) u v ≡ sum (only p m C) (only p m D) (only q t C) (only q t D) =
    expected_step s n u v ∙ ap (λ z. sum z (own_weight s u D) (other_weight s v C) (other_weight s v D)) (own C) ∙ ap (λ z. sum (only p m C) z (other_weight s v C) (other_weight s v D)) (own D)
    ∙ ap (λ z. sum (only p m C) (only p m D) z (other_weight s v D)) (other C) ∙ ap (λ z. sum (only p m C) (only p m D) (only q t C) z) (other D) in
    same ∙ one_left p q m t f
    ∙ ap (λ x. p * q * (pay s.game.now m t * plays s n + x)) ih
    ∙ gather (p * q) (pay s.game.now m t) (plays s n) (sure_points s n (next_of (row_at a u) m t) (next_of (row_at b v) t m))
    ∙ ap (λ x. sure_points s (suc n) u v * x) (sym (pow-succ' (one_play s) n))

-- ---- one turn
pub one_turn_is : (s : Side) (u v wc wd vc vd r t sucker p x : ℕ) → wc ≡ own_weight s u C → wd ≡ own_weight s u D → vc ≡ other_weight s v C → vd ≡ other_weight s v D →
    r ≡ pay s.game.now C C → sucker ≡ pay s.game.now C D → t ≡ pay s.game.now D C → p ≡ pay s.game.now D D →
    x ≡ wc * (vc * r + vd * sucker) + wd * (vc * t + vd * p) → expected s 1 u v ≡ x
one_turn_is s u v wc wd vc vd r t sucker p x e0 e1 e2 e3 g0 g1 g2 g3 h =
    let none : plays s zero ≡ 1 = pow-zero (one_play s) in
    let sum : ℕ → ℕ = λ y. own_weight s u C * (other_weight s v C * (pay s.game.now C C * y + 0) + other_weight s v D * (pay s.game.now C D * y + 0))
    + own_weight s u D * (other_weight s v C * (pay s.game.now D C * y + 0) + other_weight s v D * (pay s.game.now D D * y + 0)) in
    let first : expected s 1 u v ≡ sum 1 = expected_step s zero u v ∙ ap sum none in
    let last : sum 1 ≡ wc * (vc * r + vd * sucker) + wd * (vc * t + vd * p) = rw (e0, e1, e2, e3, g0, g1, g2, g3) (omega arith) in
    first ∙ last ∙ sym h
