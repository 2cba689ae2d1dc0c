-- What the found tables say.
use Rattle.std.proofs.Common.{ℕ, zero, suc, ◌+◌, ◌-◌, ◌*◌, ◌%◌, ◌≡◌, ◌≤◌, ◌<◌, ◌↔◌, ℤ, pos, List, length, slice_index_or, add-one, refl, sym, ap, ◌∙◌, subst, arith}
use Rattle.std.proofs.lemmas.Int.{ints}
use Rattle.std.proofs.lemmas.List.{get_or_default}
use Rattle.std.proofs.Math.Nat.{mul-le-mul_right}
use Rattle.history_model.specs.declared.moves.Move.{Move}
use Rattle.history_model.specs.declared.moves.Move.TheVariants.{C}
use Rattle.history_model.specs.Game.{magnitude}
use Rattle.fixed_span.specs.Span.{Ends, score_units, IsWithin}
use Rattle.strategy_trees.specs.Contest.{Contest, IsContest, IsSureContest, rows}
use Rattle.strategy_trees.specs.Bounds.{AreUppers, AreLowers, NoTreeExceeds, PlanAttains, UppersBoundTrees, LowersAreAttained}
use Rattle.strategy_trees.specs.Cells.{cell_at, move_at}
use Rattle.best_turns.specs.declared.induction.Found.{Found}
use Rattle.best_turns.specs.Rounded.{upper_of, lower_of, plan_of, HasNumbers, HasMoves, AreFound}
use Rattle.best_turns.specs.Response.{IsPaid, AreCells, AreNarrow, IsBestPaid, IsExact, AttainsAsMuch}
use Rattle.best_turns.proofs.Rounding.{worth-same, upper-zero, lower-zero, upper-above, lower-below, upper-high, lower-low, narrow, ordered}
use Rattle.best_turns.proofs.Tables.{place_turn, place_row}
use Rattle.best_turns.proofs.Certain.{same, best, ties}

pub place-within : (rows n t row : ℕ) → t < n → row < rows → t * rows + row < n * rows
place-within rows n t row in_time inside =
    let h : (t + 1) * rows ≤ n * rows = mul-le-mul_right rows (let l : t + 1 ≤ n = omega arith in l) in
    omega (arith, h)

-- the number at a place
pub number_is : (f : ℕ → ℕ → ℕ) (rows n t row : ℕ) (numbers : List ℤ) → HasNumbers f rows (n * rows) numbers → t < n → row < rows →
    slice_index_or numbers (t * rows + row) (pos 0) ≡ pos (f (suc t) row)
number_is f rows n t row numbers h in_time inside =
    h.each (t * rows + row) (place-within rows n t row in_time inside)
    ∙ ap (λ s. pos (f s ((t * rows + row) % rows))) (place_turn rows t row inside ∙ add-one t)
    ∙ ap (λ r. pos (f (suc t) r)) (place_row rows t row inside)

-- the last number of a row, as it is read
pub last_is : (f : ℕ → ℕ → ℕ) (rows n row : ℕ) (numbers : List ℤ) (x : ℤ) → HasNumbers f rows (n * rows) numbers → 1 ≤ n → row < rows →
    x ≡ slice_index_or numbers ((n - 1) * rows + row) x → x ≡ pos (f n row)
last_is f rows n row numbers x h some inside e =
    let t = n - 1 in
    let in_time : t < n = omega arith in
    let n_is : suc t ≡ n = omega arith in
    let here : t * rows + row < length numbers = rw h.size (place-within rows n t row in_time inside) in
    e ∙ get_or_default numbers (t * rows + row) x (pos 0) here ∙ number_is f rows n t row numbers h in_time inside ∙ ap (λ k. pos (f k row)) n_is

cell_is : (f : ℕ → ℕ → ℕ) (rows n t row : ℕ) (numbers : List ℤ) → HasNumbers f rows (n * rows) numbers → f 0 row ≡ 0 → t ≤ n → row < rows →
    cell_at numbers rows t row ≡ f t row
cell_is f rows n zero row numbers h none in_time inside = sym none
cell_is f rows n (suc t) row numbers h none in_time inside = ap magnitude (number_is f rows n t row numbers h (omega arith) inside)

move_is : (f : ℕ → ℕ → Move) (rows n t row : ℕ) (moves : List Move) → HasMoves f rows (n * rows) moves → t < n → row < rows →
    move_at moves rows (suc t) row ≡ f (suc t) row
move_is f rows n t row moves h in_time inside =
    h.each (t * rows + row) (place-within rows n t row in_time inside)
    ∙ ap (λ s. f s ((t * rows + row) % rows)) (place_turn rows t row inside ∙ add-one t)
    ∙ ap (f (suc t)) (place_row rows t row inside)

module _ (c : Contest) (ok : IsContest c) (n : ℕ) (found : Found) (h : AreFound c (n * rows c) found) where
  abbrev upper : ℕ → ℕ → ℕ
  upper = cell_at found.uppers.items (rows c)

  abbrev lower : ℕ → ℕ → ℕ
  lower = cell_at found.lowers.items (rows c)

  abbrev plan : ℕ → ℕ → Move
  plan = move_at found.moves.items (rows c)

  pub upper_is : (t row : ℕ) → t ≤ n → row < rows c → upper t row ≡ upper_of c t row
  upper_is t row in_time inside = cell_is (upper_of c) (rows c) n t row found.uppers.items h.high (upper-zero c row) in_time inside

  pub lower_is : (t row : ℕ) → t ≤ n → row < rows c → lower t row ≡ lower_of c t row
  lower_is t row in_time inside = cell_is (lower_of c) (rows c) n t row found.lowers.items h.low (lower-zero c row) in_time inside

  plan_is : (t row : ℕ) → t < n → row < rows c → plan (suc t) row ≡ plan_of c (suc t) row
  plan_is t row in_time inside = move_is (plan_of c) (rows c) n t row found.moves.items h.plan in_time inside

  paid : (t row x : ℕ) → row < rows c → lower_of c t row ≤ x → x ≤ upper_of c t row → IsPaid c t (pos x)
  paid t row x inside low high =
      let a = lower-low c ok t row inside in
      let b = upper-high c ok t row inside in
      record { low = omega (arith, ints, a, low); high = omega (arith, ints, b, high) }

  pub upper_cells : AreCells c n found.uppers.items
  upper_cells = record {
    size = h.high.size;
    each = λ t row in_time inside. subst (IsPaid c (suc t)) (sym (number_is (upper_of c) (rows c) n t row found.uppers.items h.high in_time inside))
        (paid (suc t) row (upper_of c (suc t) row) inside (ordered c ok (suc t) row inside) (omega arith));
  }

  pub lower_cells : AreCells c n found.lowers.items
  lower_cells = record {
    size = h.low.size;
    each = λ t row in_time inside. subst (IsPaid c (suc t)) (sym (number_is (lower_of c) (rows c) n t row found.lowers.items h.low in_time inside))
        (paid (suc t) row (lower_of c (suc t) row) inside (omega arith) (ordered c ok (suc t) row inside));
  }

  pub are_narrow : AreNarrow c n found.lowers.items found.uppers.items
  are_narrow = record {
    ordered = λ t row in_time inside. rw (upper_is (suc t) row in_time inside, lower_is (suc t) row in_time inside) (ordered c ok (suc t) row inside);
    width = λ t row in_time inside. rw (upper_is (suc t) row in_time inside, lower_is (suc t) row in_time inside) (narrow c ok (suc t) row inside);
  }

  pub uppers_pass : AreUppers c score_units n upper
  uppers_pass = record {
    above = λ t row move in_time inside.
        (let early : t ≤ n = omega arith in
        let e = worth-same c ok (upper t) (upper_of c t) (λ k i. upper_is t k early i) row move inside in
        let f : upper (suc t) row ≡ upper_of c (suc t) row = upper_is (suc t) row in_time inside in
        rw (e, f) (upper-above c ok t row move));
  }

  pub lowers_pass : AreLowers c score_units n plan lower
  lowers_pass = record {
    none = λ row inside. refl;
    below = λ t row in_time inside.
        (let early : t ≤ n = omega arith in
        let e = worth-same c ok (lower t) (lower_of c t) (λ k i. lower_is t k early i) row (plan (suc t) row) inside in
        let f : lower (suc t) row ≡ lower_of c (suc t) row = lower_is (suc t) row in_time inside in
        let g : plan (suc t) row ≡ plan_of c (suc t) row = plan_is t row in_time inside in
        rw (e, f, g) (lower-below c ok t row));
  }

  pub exceeds : UppersBoundTrees → (hi : ℤ) → hi ≡ pos (upper_of c n c.opponent.start) → NoTreeExceeds c 0 n score_units hi
  exceeds law hi e =
      subst (NoTreeExceeds c 0 n score_units) (ap pos (upper_is n c.opponent.start (omega arith) ok.automaton.started) ∙ sym e)
      (law c score_units n upper ok uppers_pass)

  pub attains : LowersAreAttained → (lo : ℤ) → lo ≡ pos (lower_of c n c.opponent.start) → PlanAttains c plan 0 n score_units lo
  attains law lo e =
      subst (PlanAttains c plan 0 n score_units) (ap pos (lower_is n c.opponent.start (omega arith) ok.automaton.started) ∙ sym e)
      (law c score_units n plan lower ok lowers_pass)

  pub is_within : (value : Ends) → value.lo ≡ pos (lower_of c n c.opponent.start) → value.hi ≡ pos (upper_of c n c.opponent.start) → IsWithin n value
  is_within value lo hi = let w = narrow c ok n c.opponent.start ok.automaton.started in rw (lo, hi) (omega (arith, ints, w))

  pub is_point : IsSureContest c → (lo hi : ℤ) → lo ≡ pos (lower_of c n c.opponent.start) → hi ≡ pos (upper_of c n c.opponent.start) → lo ≡ hi
  is_point sure lo hi l u = l ∙ ap pos (same c ok sure n c.opponent.start ok.automaton.started) ∙ sym u

  pub is_exact : IsSureContest c → IsExact c n found.moves.items found.lowers.items found.uppers.items
  is_exact sure = record {
    points = λ t row in_time inside. lower_is (suc t) row in_time inside ∙ same c ok sure (suc t) row inside ∙ sym (upper_is (suc t) row in_time inside);
    best = λ t row in_time inside. subst (IsBestPaid c (suc t) row) (sym (lower_is (suc t) row in_time inside)) (best c ok sure (suc t) row inside);
    ties = λ t row in_time inside. subst (λ m. (m ≡ C) ↔ AttainsAsMuch c (suc t) row) (sym (plan_is t row in_time inside)) (ties c ok sure t row inside);
  }
