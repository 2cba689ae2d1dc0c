-- Cells of 128 bits.
use Rattle.std.proofs.Common.{ℕ, ◌+◌, ◌*◌, ◌^◌, ◌≡◌, ◌≤◌, ◌<◌, refl, sym, ap, ◌∙◌, arith, List, length, get_or, slice_index, subst, Vec, Global}
use Rattle.std.proofs.Math.Nat.{mul-le-mul_right, mul-le-mul_left, mul-le-mul, le_of_mul-le-mul_right}
use Rattle.history_model.specs.declared.moves.Move.{Move}
use Rattle.history_model.specs.declared.moves.Move.TheVariants.{C, D}
use Rattle.history_model.specs.Automaton.{row_at, next_of}
use Rattle.history_model.specs.Game.{pay}
use Rattle.product_chain.specs.declared.side.Side.{Side}
use Rattle.product_chain.specs.declared.course.Fork.{Fork}
use Rattle.product_chain.specs.declared.course.Weights.{Weights}
use Rattle.product_chain.specs.Layer.{Grain, IsSide, IsNear, IsCell, IsRow, other_rows, own_weight, other_weight, one_play, plays, expected, paid, moved}
use Rattle.product_chain.specs.Course.{IsFork, AreAnswers, AreWeights, AreRowWeights}
use Rattle.product_chain.specs.Scale.{IsScale, top}
use Rattle.product_chain.specs.Wide.{IsQuotient, IsSum, IsSumRow, AreSumsTo, AreSummed, AreDivided, HasWideRoom, AreWithin, AreFew, wide_grain}
use Rattle.product_chain.proofs.Steps.{expected_by_forks, plays_step, paid_near, gain_fits, near_as}

-- a sum of near numbers by weights
sum_near : (scale below above c d xc xd ec ed y : ℕ) → IsNear scale 0 above xc ec y → IsNear scale 0 above xd ed y →
    IsNear scale 0 (above * (c + d)) (c * xc + d * xd) (c * ec + d * ed) y
sum_near scale below above c d xc xd ec ed y near_c near_d = record {
  low = omega (arith, mul-le-mul_left c near_c.low, mul-le-mul_left d near_d.low);
  high = omega (arith, mul-le-mul_left c near_c.high, mul-le-mul_left d near_d.high);
}

-- a quotient by the weights of one play
quotient_near : (scale above x e y q r : ℕ) → IsNear scale 0 (above * q) x e y → IsQuotient x q r → IsNear scale 0 (above + 4) r e (q * y)
quotient_near scale above x e y q r near quotient = record {
  low = omega (arith, near.low, mul-le-mul_right y quotient.low);
  high = omega (arith, near.high, mul-le-mul_right y quotient.high);
}

sum_small : (c d q xc xd m : ℕ) → c + d ≡ q → xc ≤ m → xd ≤ m → c * xc + d * xd ≤ q * m
sum_small c d q xc xd m sum hc hd = omega (arith, mul-le-mul_left c hc, mul-le-mul_left d hd, ap (λ z. z * m) sum)

quotient_small : (x q r m : ℕ) → 0 < q → IsQuotient x q r → x ≤ q * m → r ≤ m
quotient_small x q r m some quotient h = let k : r * q ≤ m * q = omega (arith, quotient.low, h) in le_of_mul-le-mul_right k some

module _ (s : Side) (ok : IsSide s) (scale n turns : ℕ) (later : n < turns) (scaled : IsScale s.game.now turns (2 ^ 86) scale) where
  abbrev unit : ℕ
  unit = top s.game.now * scale

  pub room : (gain x : ℕ) → gain ≤ unit → x ≤ n * unit → gain + x ≤ 2 ^ 86
  room gain x h k = gain_fits n turns (2 ^ 86) unit gain x later scaled.fits h k

  pub row_room : (gain u : ℕ) (cells : List ℕ) → gain ≤ unit → IsRow s (wide_grain s scale) n u cells → HasWideRoom gain cells
  row_room gain u cells h row v hv = room gain (slice_index cells v) h (row.each v (omega (arith, row.size, hv))).small

  next_within : (n + 1) * unit ≤ 2 ^ 86
  next_within = omega (arith, scaled.fits, mul-le-mul_right unit (let k : n + 1 ≤ turns = omega (arith, later) in k))

  pub sum_row_within : (mine : Move) (fork : Fork) (cells : List ℕ) → IsSumRow s (wide_grain s scale) n mine fork cells → AreWithin cells
  sum_row_within mine fork cells row v hv =
      let small = (row.each v (omega (arith, row.size, hv))).small in
      let k : s.other_over * ((n + 1) * unit) ≤ 1000000 * 2 ^ 86 = mul-le-mul ok.other_few next_within in
      omega (arith, small, k)

  -- the other's move is drawn
  pub sum_cell : (mine : Move) (fork : Fork) (v gain_c gain_d xc xd x : ℕ) (w : Weights) → AreWeights s.other.now s.other_noise.now v w →
      gain_c ≡ pay s.game.now mine C * scale → gain_c ≤ unit → gain_d ≡ pay s.game.now mine D * scale → gain_d ≤ unit →
      IsCell s (wide_grain s scale) n fork.c (next_of (row_at s.other.now v) C mine) xc →
      IsCell s (wide_grain s scale) n fork.d (next_of (row_at s.other.now v) D mine) xd →
      x ≡ w.c * (gain_c + xc) + w.d * (gain_d + xd) → IsSum s (wide_grain s scale) n mine fork v x
  sum_cell mine fork v gain_c gain_d xc xd x w weighed ec hc ed hd cell_c cell_d is =
      let sum : w.c + w.d ≡ s.other_over = weighed.sum ∙ sym ok.other_over in
      let near = sum_near scale 0 (4 * n) w.c w.d (gain_c + xc) (gain_d + xd) (paid s n mine C fork.c (next_of (row_at s.other.now v) C mine)) (paid s n mine D fork.d (next_of (row_at s.other.now v) D mine)) (plays s n)
      (paid_near s n scale 0 (4 * n) gain_c xc fork.c _ mine C ec (at_least cell_c.near)) (paid_near s n scale 0 (4 * n) gain_d xd fork.d _ mine D ed (at_least cell_d.near)) in
      let named : w.c * paid s n mine C fork.c (next_of (row_at s.other.now v) C mine) + w.d * paid s n mine D fork.d (next_of (row_at s.other.now v) D mine) ≡ moved s n mine fork.c fork.d v =
      ap (λ z. z * paid s n mine C fork.c (next_of (row_at s.other.now v) C mine) + w.d * paid s n mine D fork.d (next_of (row_at s.other.now v) D mine)) weighed.c
      ∙ ap (λ z. other_weight s v C * paid s n mine C fork.c (next_of (row_at s.other.now v) C mine) + z * paid s n mine D fork.d (next_of (row_at s.other.now v) D mine)) weighed.d in
      record {
        near = subst (λ z. IsNear scale 0 (4 * n * s.other_over) z (moved s n mine fork.c fork.d v) (plays s n)) (sym is)
            (near_as scale 0 (4 * n * (w.c + w.d)) 0 (4 * n * s.other_over) (w.c * (gain_c + xc) + w.d * (gain_d + xd)) _ _ (plays s n) _ refl (ap (λ z. 4 * n * z) sum) named refl near);
        small = rw is (sum_small w.c w.d s.other_over (gain_c + xc) (gain_d + xd) ((n + 1) * unit) sum (omega (arith, hc, cell_c.small)) (omega (arith, hd, cell_d.small)));
      }
    where
      at_least : {x e y : ℕ} → IsNear scale (0 * n) (4 * n) x e y → IsNear scale 0 (4 * n) x e y
      at_least near = record { low = omega (arith, near.low); high = near.high }

  -- the side's move is drawn
  pub one_more : (u v xc xd x : ℕ) (w : Weights) (fork_c fork_d : Fork) → AreWeights s.own.now s.own_noise.now u w →
      IsFork s.own.now u C fork_c → IsFork s.own.now u D fork_d →
      IsSum s (wide_grain s scale) n C fork_c v xc → IsSum s (wide_grain s scale) n D fork_d v xd →
      IsQuotient (w.c * xc + w.d * xd) (one_play s) x → IsCell s (wide_grain s scale) (n + 1) u v x
  one_more u v xc xd x w fork_c fork_d weighed fc fd sum_c sum_d quotient =
      let sum : w.c + w.d ≡ s.own_over = weighed.sum ∙ sym ok.own_over in
      let whole : s.own_over * s.other_over ≡ one_play s = ap (λ z. z * s.other_over) ok.own_over ∙ ap (λ z. s.own.now.den * s.own_noise.now.e * z) ok.other_over in
      let above : 4 * n * s.other_over * (w.c + w.d) ≡ 4 * n * one_play s = ap (λ z. 4 * n * s.other_over * z) sum ∙ order (4 * n) s.other_over s.own_over ∙ ap (λ z. 4 * n * z) whole in
      let named : w.c * moved s n C fork_c.c fork_c.d v + w.d * moved s n D fork_d.c fork_d.d v ≡ expected s (n + 1) u v =
      ap (λ z. z * moved s n C fork_c.c fork_c.d v + w.d * moved s n D fork_d.c fork_d.d v) weighed.c
      ∙ ap (λ z. own_weight s u C * moved s n C fork_c.c fork_c.d v + z * moved s n D fork_d.c fork_d.d v) weighed.d
      ∙ expected_by_forks s n u v fork_c fork_d fc fd in
      let near0 = sum_near scale 0 (4 * n * s.other_over) w.c w.d xc xd (moved s n C fork_c.c fork_c.d v) (moved s n D fork_d.c fork_d.d v) (plays s n) sum_c.near sum_d.near in
      let near1 = near_as scale 0 _ 0 (4 * n * one_play s) (w.c * xc + w.d * xd) _ (expected s (n + 1) u v) (plays s n) _ refl above named refl near0 in
      let near2 = quotient_near scale (4 * n) (w.c * xc + w.d * xd) (expected s (n + 1) u v) (plays s n) (one_play s) x near1 quotient in
      let small0 : w.c * xc + w.d * xd ≤ s.own_over * (s.other_over * ((n + 1) * unit)) = sum_small w.c w.d s.own_over xc xd (s.other_over * ((n + 1) * unit)) sum sum_c.small sum_d.small in
      let small1 : w.c * xc + w.d * xd ≤ one_play s * ((n + 1) * unit) = omega (arith, small0, ap (λ z. z * ((n + 1) * unit)) whole) in
      record {
        near = near_as scale 0 (4 * n + 4) (0 * (n + 1)) (4 * (n + 1)) x _ _ _ (plays s (n + 1)) (omega arith) (omega arith) refl (order2 ∙ sym (plays_step s n)) near2;
        small = quotient_small (w.c * xc + w.d * xd) (one_play s) x ((n + 1) * unit) (rw (← whole) (let k : 1 * 1 ≤ s.own_over * s.other_over = mul-le-mul ok.own_some ok.other_some in k)) quotient small1;
      }
    where
      order : (a b c : ℕ) → a * b * c ≡ a * (c * b)
      order a b c = omega arith

      order2 : one_play s * plays s n ≡ s.own.now.den * s.own_noise.now.e * (s.other.now.den * s.other_noise.now.e * plays s n)
      order2 = regroup (s.own.now.den * s.own_noise.now.e) (s.other.now.den * s.other_noise.now.e) (plays s n)
        where
          regroup : (a b y : ℕ) → a * b * y ≡ a * (b * y)
          regroup a b y = omega arith

  -- a row of a fork
  pub sum_row : (mine : Move) (fork : Fork) (gain_c gain_d : ℕ) (weights : List Weights) (after_c after_d cells : List ℕ) (answers : List Fork) →
      AreRowWeights s.other.now s.other_noise.now weights → AreAnswers s.other.now mine answers →
      gain_c ≡ pay s.game.now mine C * scale → gain_c ≤ unit → gain_d ≡ pay s.game.now mine D * scale → gain_d ≤ unit →
      IsRow s (wide_grain s scale) n fork.c after_c → IsRow s (wide_grain s scale) n fork.d after_d →
      length cells ≡ other_rows s → AreSummed weights answers gain_c after_c gain_d after_d (other_rows s) cells →
      IsSumRow s (wide_grain s scale) n mine fork cells
  sum_row mine fork gain_c gain_d weights after_c after_d cells answers weighed answered ec hc ed hd row_c row_d size summed = record {
    size = size;
    each = λ v hv.
        let e : Fork = record { c = 0; d = 0 } in
        let d : Weights = record { c = 0; d = 0 } in
        let answer = answered.each v e hv in
        let next = get_or answers v e in
        let cell_c = subst (λ z. IsCell s (wide_grain s scale) n fork.c z (slice_index after_c next.c)) answer.c (row_c.each next.c answer.inside.c) in
        let cell_d = subst (λ z. IsCell s (wide_grain s scale) n fork.d z (slice_index after_d next.d)) answer.d (row_d.each next.d answer.inside.d) in
        sum_cell mine fork v gain_c gain_d (slice_index after_c next.c) (slice_index after_d next.d) (slice_index cells v) (get_or weights v d) (weighed.each v d hv) ec hc ed hd cell_c cell_d (summed v d e hv);
  }

  -- a row of the layer
  pub one_more_row : (u : ℕ) (w : Weights) (fork_c fork_d : Fork) (if_c if_d cells : List ℕ) → AreWeights s.own.now s.own_noise.now u w →
      IsFork s.own.now u C fork_c → IsFork s.own.now u D fork_d →
      IsSumRow s (wide_grain s scale) n C fork_c if_c → IsSumRow s (wide_grain s scale) n D fork_d if_d →
      length cells ≡ other_rows s → AreDivided w (one_play s) if_c if_d (other_rows s) cells → IsRow s (wide_grain s scale) (n + 1) u cells
  one_more_row u w fork_c fork_d if_c if_d cells weighed fc fd row_c row_d size divided = record {
    size = size;
    each = λ v hv. one_more u v _ _ _ w fork_c fork_d weighed fc fd (row_c.each v hv) (row_d.each v hv) (divided v hv);
  }

-- a row that was read out of the rows of all forks
pub read_sums : (s : Side) (g : Grain) (n : ℕ) (mine : Move) (forks : List Fork) (rows : List (Vec ℕ Global)) (k : ℕ) (row : Vec ℕ Global) (cells : List ℕ) (e : Fork) →
    AreSumsTo s g n mine forks (length forks) rows → k < length forks → row ≡ get_or rows k row → cells ≡ row.items → IsSumRow s g n mine (get_or forks k e) cells
read_sums s g n mine forks rows k row cells e right within read is =
    subst (IsSumRow s g n mine (get_or forks k e)) (sym (is ∙ ap (λ (v : Vec ℕ Global). v.items) read)) (right.each k row e within)

-- weights of rows are few
pub row_weights_few : (s : Side) (weights : List Weights) → AreRowWeights s.other.now s.other_noise.now weights → AreFew weights
row_weights_few s weights right v d hv = (right.each v d (omega (arith, right.size, hv))).few
