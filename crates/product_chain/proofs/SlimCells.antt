-- Cells of 64 bits.
use Rattle.std.proofs.Common.{ℕ, ◌+◌, ◌-◌, ◌*◌, ◌^◌, ◌≡◌, ◌≤◌, ◌<◌, sym, ap, ◌∙◌, arith, List, length, get_or, slice_index, subst, Vec, Global}
use Rattle.std.proofs.Math.Nat.{mul-le-mul_right}
use Rattle.history_model.specs.declared.moves.Move.{Move}
use Rattle.history_model.specs.declared.moves.Move.TheVariants.{C, D}
use Rattle.history_model.specs.Automaton.{row_at, next_of}
use Rattle.history_model.specs.Game.{pay}
use Rattle.product_chain.specs.declared.side.Side.{Side}
use Rattle.product_chain.specs.declared.course.Fork.{Fork}
use Rattle.product_chain.specs.Layer.{Grain, IsSide, IsCell, IsRow, own_rows, other_rows, own_weight, other_weight, plays, expected, paid, moved}
use Rattle.product_chain.specs.Course.{IsFork, AreAnswers}
use Rattle.product_chain.specs.Scale.{IsScale, top}
use Rattle.product_chain.specs.Slim.{IsPart, AreParts, IsMix, IsMoved, IsMovedRow, AreMovedTo, AreDrawn, AreMixed, CellsHaveRoom, slim_grain}
use Rattle.product_chain.proofs.Weighing.{shown_sum}
use Rattle.product_chain.proofs.Mixing.{mix_small, mix_near}
use Rattle.product_chain.proofs.Steps.{expected_by_forks, plays_step, paid_near, gain_fits, near_as}

module _ (s : Side) (ok : IsSide s) (scale n turns : ℕ) (later : n < turns) (scaled : IsScale s.game.now turns (2 ^ 63 - 1) scale) where
  abbrev unit : ℕ
  unit = top s.game.now * scale

  pub room : (gain x : ℕ) → gain ≤ unit → x ≤ n * unit → gain + x < 2 ^ 63
  room gain x h k = omega (arith, gain_fits n turns (2 ^ 63 - 1) unit gain x later scaled.fits h k)

  pub row_room : (gain u : ℕ) (cells : List ℕ) → gain ≤ unit → IsRow s (slim_grain s scale) n u cells → CellsHaveRoom gain cells
  row_room gain u cells h row v hv = room gain (slice_index cells v) h (row.each v (omega (arith, row.size, hv))).small

  pub moved_room : (x : ℕ) → x ≤ (n + 1) * unit → x < 2 ^ 63
  moved_room x h = omega (arith, h, scaled.fits, mul-le-mul_right unit (let k : n + 1 ≤ turns = omega (arith, later) in k))

  pub moved_row_room : (mine : Move) (fork : Fork) (cells : List ℕ) → IsMovedRow s (slim_grain s scale) n mine fork cells → CellsHaveRoom 0 cells
  moved_row_room mine fork cells row v hv = omega (arith, moved_room (slice_index cells v) (row.each v (omega (arith, row.size, hv))).small)

  -- the other's move is drawn
  pub moved_cell : (mine : Move) (fork : Fork) (v part gain_c gain_d xc xd x : ℕ) → v < other_rows s →
      IsPart (other_weight s v C) (s.other.now.den * s.other_noise.now.e) part →
      gain_c ≡ pay s.game.now mine C * scale → gain_c ≤ unit → gain_d ≡ pay s.game.now mine D * scale → gain_d ≤ unit →
      IsCell s (slim_grain s scale) n fork.c (next_of (row_at s.other.now v) C mine) xc →
      IsCell s (slim_grain s scale) n fork.d (next_of (row_at s.other.now v) D mine) xd →
      IsMix part (gain_c + xc) (gain_d + xd) x → IsMoved s (slim_grain s scale) n mine fork v x
  moved_cell mine fork v part gain_c gain_d xc xd x hv weighed ec hc ed hd cell_c cell_d mix =
      let c_less = room gain_c xc hc cell_c.small in
      let d_less = room gain_d xd hd cell_d.small in
      let sum = shown_sum s.other_noise.now s.other.now.den _ ok.other_rate (ok.other.weighed v hv) in
      record {
        near = mix_near scale (2 * n) (4 * n) (other_weight s v C) (other_weight s v D) (s.other.now.den * s.other_noise.now.e) part (gain_c + xc) (gain_d + xd) x
            (paid s n mine C fork.c (next_of (row_at s.other.now v) C mine)) (paid s n mine D fork.d (next_of (row_at s.other.now v) D mine)) (plays s n) sum weighed mix
            (omega (arith, c_less)) (omega (arith, d_less))
            (paid_near s n scale (2 * n) (4 * n) gain_c xc fork.c _ mine C ec cell_c.near)
            (paid_near s n scale (2 * n) (4 * n) gain_d xd fork.d _ mine D ed cell_d.near);
        small = mix_small part (gain_c + xc) (gain_d + xd) x ((n + 1) * unit) weighed.less mix (omega (arith, hc, cell_c.small)) (omega (arith, hd, cell_d.small));
      }

  -- the side's move is drawn
  pub one_more : (u v part xc xd x : ℕ) (fork_c fork_d : Fork) → u < own_rows s →
      IsPart (own_weight s u C) (s.own.now.den * s.own_noise.now.e) part → IsFork s.own.now u C fork_c → IsFork s.own.now u D fork_d →
      IsMoved s (slim_grain s scale) n C fork_c v xc → IsMoved s (slim_grain s scale) n D fork_d v xd →
      IsMix part xc xd x → IsCell s (slim_grain s scale) (n + 1) u v x
  one_more u v part xc xd x fork_c fork_d hu weighed fc fd moved_c moved_d mix =
      let sum = shown_sum s.own_noise.now s.own.now.den _ ok.own_rate (ok.own.weighed u hu) in
      let c_less = moved_room xc moved_c.small in
      let d_less = moved_room xd moved_d.small in
      let y = s.other.now.den * s.other_noise.now.e * plays s n in
      let near = mix_near scale (2 * n + 1) (4 * n + 2) (own_weight s u C) (own_weight s u D) (s.own.now.den * s.own_noise.now.e) part xc xd x
      (moved s n C fork_c.c fork_c.d v) (moved s n D fork_d.c fork_d.d v) y sum weighed mix (omega (arith, c_less)) (omega (arith, d_less)) moved_c.near moved_d.near in
      record {
        near = near_as scale (2 * n + 1 + 1) (4 * n + 2 + 2) (2 * (n + 1)) (4 * (n + 1)) x _ (expected s (n + 1) u v) _ (plays s (n + 1)) (omega arith) (omega arith)
            (expected_by_forks s n u v fork_c fork_d fc fd) (sym (plays_step s n)) near;
        small = mix_small part xc xd x ((n + 1) * unit) weighed.less mix moved_c.small moved_d.small;
      }

  -- a row of a fork
  pub moved_row : (mine : Move) (fork : Fork) (gain_c gain_d : ℕ) (parts after_c after_d cells : List ℕ) (answers : List Fork) →
      AreParts s.other.now s.other_noise.now parts → AreAnswers s.other.now mine answers →
      gain_c ≡ pay s.game.now mine C * scale → gain_c ≤ unit → gain_d ≡ pay s.game.now mine D * scale → gain_d ≤ unit →
      IsRow s (slim_grain s scale) n fork.c after_c → IsRow s (slim_grain s scale) n fork.d after_d →
      length cells ≡ other_rows s → AreDrawn parts answers gain_c after_c gain_d after_d (other_rows s) cells →
      IsMovedRow s (slim_grain s scale) n mine fork cells
  moved_row mine fork gain_c gain_d parts after_c after_d cells answers weighed answered ec hc ed hd row_c row_d size drawn = record {
    size = size;
    each = λ v hv.
        let e : Fork = record { c = 0; d = 0 } in
        let answer = answered.each v e hv in
        let next = get_or answers v e in
        let cell_c = subst (λ z. IsCell s (slim_grain s scale) n fork.c z (slice_index after_c next.c)) answer.c (row_c.each next.c answer.inside.c) in
        let cell_d = subst (λ z. IsCell s (slim_grain s scale) n fork.d z (slice_index after_d next.d)) answer.d (row_d.each next.d answer.inside.d) in
        moved_cell mine fork v (slice_index parts v) gain_c gain_d (slice_index after_c next.c) (slice_index after_d next.d) (slice_index cells v) hv (weighed.each v hv) ec hc ed hd cell_c cell_d (drawn v e hv);
  }

  -- a row of the layer
  pub one_more_row : (u part : ℕ) (fork_c fork_d : Fork) (if_c if_d cells : List ℕ) → u < own_rows s →
      IsPart (own_weight s u C) (s.own.now.den * s.own_noise.now.e) part → IsFork s.own.now u C fork_c → IsFork s.own.now u D fork_d →
      IsMovedRow s (slim_grain s scale) n C fork_c if_c → IsMovedRow s (slim_grain s scale) n D fork_d if_d →
      length cells ≡ other_rows s → AreMixed part if_c if_d (other_rows s) cells → IsRow s (slim_grain s scale) (n + 1) u cells
  one_more_row u part fork_c fork_d if_c if_d cells hu weighed fc fd row_c row_d size mixed = record {
    size = size;
    each = λ v hv. one_more u v part _ _ _ fork_c fork_d hu weighed fc fd (row_c.each v hv) (row_d.each v hv) (mixed v hv);
  }

-- a row that was read out of the rows of all forks
pub read_moved : (s : Side) (g : Grain) (n : ℕ) (mine : Move) (forks : List Fork) (rows : List (Vec ℕ Global)) (k : ℕ) (row : Vec ℕ Global) (cells : List ℕ) (e : Fork) →
    AreMovedTo s g n mine forks (length forks) rows → k < length forks → row ≡ get_or rows k row → cells ≡ row.items → IsMovedRow s g n mine (get_or forks k e) cells
read_moved s g n mine forks rows k row cells e right within read is =
    subst (IsMovedRow s g n mine (get_or forks k e)) (sym (is ∙ ap (λ (v : Vec ℕ Global). v.items) read)) (right.each k row e within)
