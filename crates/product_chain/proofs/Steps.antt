-- One turn of what a side expects.
use Rattle.std.proofs.Common.{ℕ, suc, ◌+◌, ◌*◌, ◌≡◌, ◌≤◌, ◌<◌, sym, ap, ◌∙◌, arith, add-one}
use Rattle.std.proofs.Math.Nat.{mul-le-mul_right, pow-succ'}
use Rattle.history_model.specs.declared.moves.Move.{Move}
use Rattle.history_model.specs.declared.moves.Move.TheVariants.{C, D}
use Rattle.history_model.specs.Automaton.{row_at, next_of}
use Rattle.history_model.specs.Game.{pay}
use Rattle.product_chain.specs.declared.side.Side.{Side}
use Rattle.product_chain.specs.declared.course.Fork.{Fork}
use Rattle.product_chain.specs.Layer.{IsNear, own_weight, other_weight, one_play, plays, expected, paid, moved}
use Rattle.product_chain.specs.Course.{IsFork}

by_own_move : (w0 w1 z0 z1 a b c d : ℕ) → w0 * z0 * a + w0 * z1 * b + w1 * z0 * c + w1 * z1 * d ≡ w0 * (z0 * a + z1 * b) + w1 * (z0 * c + z1 * d)
by_own_move w0 w1 z0 z1 a b c d = omega arith

-- a turn more: the side's move is drawn
pub expected_step : (s : Side) (n u v : ℕ) → expected s (suc n) u v
    ≡ own_weight s u C * moved s n C (next_of (row_at s.own.now u) C C) (next_of (row_at s.own.now u) C D) v
    + own_weight s u D * moved s n D (next_of (row_at s.own.now u) D C) (next_of (row_at s.own.now u) D D) v
expected_step s n u v =
    by_own_move (own_weight s u C) (own_weight s u D) (other_weight s v C) (other_weight s v D)
    (paid s n C C (next_of (row_at s.own.now u) C C) (next_of (row_at s.other.now v) C C)) (paid s n C D (next_of (row_at s.own.now u) C D) (next_of (row_at s.other.now v) D C))
    (paid s n D C (next_of (row_at s.own.now u) D C) (next_of (row_at s.other.now v) C D)) (paid s n D D (next_of (row_at s.own.now u) D D) (next_of (row_at s.other.now v) D D))

-- the same, for the forks of both moves
pub expected_by_forks : (s : Side) (n u v : ℕ) (c d : Fork) → IsFork s.own.now u C c → IsFork s.own.now u D d →
    own_weight s u C * moved s n C c.c c.d v + own_weight s u D * moved s n D d.c d.d v ≡ expected s (n + 1) u v
expected_by_forks s n u v c d fc fd = rw (fc.c, fc.d, fd.c, fd.d, add-one n) (sym (expected_step s n u v))

pub plays_step : (s : Side) (n : ℕ) → plays s (n + 1) ≡ s.own.now.den * s.own_noise.now.e * (s.other.now.den * s.other_noise.now.e * plays s n)
plays_step s n = rw add-one (pow-succ' (one_play s) n ∙ group (s.own.now.den * s.own_noise.now.e) (s.other.now.den * s.other_noise.now.e) (plays s n))
  where
    group : (a b y : ℕ) → a * b * y ≡ a * (b * y)
    group a b y = omega arith

-- a play's payment beside a near number
pub paid_near : (s : Side) (n scale below above gain x u v : ℕ) (mine theirs : Move) → gain ≡ pay s.game.now mine theirs * scale →
    IsNear scale below above x (expected s n u v) (plays s n) → IsNear scale below above (gain + x) (paid s n mine theirs u v) (plays s n)
paid_near s n scale below above gain x u v mine theirs e near =
    let k : gain * plays s n ≡ pay s.game.now mine theirs * scale * plays s n = ap (λ z. z * plays s n) e in
    record { low = omega (arith, k, near.low); high = omega (arith, k, near.high) }

-- with a turn to go, a gain fits beside a cell
pub gain_fits : (n turns room unit gain x : ℕ) → n < turns → turns * unit ≤ room → gain ≤ unit → x ≤ n * unit → gain + x ≤ room
gain_fits n turns room unit gain x later fits small under =
    let k : (n + 1) * unit ≤ turns * unit = mul-le-mul_right unit (omega (arith, later)) in omega (arith, k, fits, small, under)

pub near_as : (scale a b a' b' x e e' y y' : ℕ) → a ≡ a' → b ≡ b' → e ≡ e' → y ≡ y' → IsNear scale a b x e y → IsNear scale a' b' x e' y'
near_as scale a b a' b' x e e' y y' p q r t near = rw (← p, ← q, ← r, ← t) near
