-- Layers and tables that grow.
use Rattle.std.proofs.Common.{ℕ, ◌+◌, ◌*◌, ◌/◌, ◌%◌, ◌^◌, ◌≡◌, ◌≤◌, ◌<◌, inl, inr, ℤ, pos, List, [], ◌∷◌, ◌++◌, length, length-append, slice_index, slice_set, add-one, sym, ap, ◌∙◌, arith}
use Rattle.std.proofs.lemmas.Bool.{cases_lt, cases_eq}
use Rattle.std.proofs.lemmas.List.{get_or_append_left, get_or_push, get_or-replicate, get_or-set_same, get_or-set_other, length-set, length-replicate}
use Rattle.std.proofs.lemmas.Nat.{div-mul-add, mod-mul-add}
use Rattle.std.proofs.Math.ListN.{replicate}
use Rattle.std.proofs.Math.Nat.{le_trans, mul-le-mul, mul-le-mul_right}
use Rattle.history_model.specs.declared.moves.Move.{Move}
use Rattle.history_model.specs.declared.moves.Move.TheVariants.{C, D}
use Rattle.history_model.specs.Game.{Payoffs, IsGame, most}
use Rattle.fixed_span.specs.Span.{score_units}
use Rattle.strategy_trees.specs.Contest.{Contest, IsContest, rows, one_play, worth}
use Rattle.best_turns.specs.declared.induction.Layer.{Layer}
use Rattle.best_turns.specs.declared.induction.Found.{Found}
use Rattle.best_turns.specs.Meeting.{AreFew}
use Rattle.best_turns.specs.Rounded.{best_worth, choice, choice_at, ceiling, upper_of, lower_of, plan_of, HasCells, HasLayer, HasNumbers, HasMoves, AreFound}
use Rattle.best_turns.proofs.Rounding.{worth-same, best_worth-same, upper-suc, lower-suc, plan-suc, upper-high, ordered}

pub no_cells : (f : ℕ → ℕ) (n : ℕ) (cells : List ℕ) → cells ≡ replicate n 0 → ((row : ℕ) → f row ≡ 0) → HasCells f n n cells
no_cells f n cells e none = record {
  size = ap length e ∙ length-replicate n 0;
  each = λ row h. ap (λ xs. slice_index xs row) e ∙ get_or-replicate n row 0 0 h ∙ sym (none row);
}

pub put_cell : (f : ℕ → ℕ) (n row : ℕ) (cells : List ℕ) (x : ℕ) → HasCells f n row cells → row < n → x ≡ f row → HasCells f n (row + 1) (slice_set cells row x)
put_cell f n row cells x h inside e = record {
  size = length-set cells row x ∙ h.size;
  each = λ k l. elim (cases_eq k row) [
    | inl same ↦ (let here : row < length cells = rw h.size inside in
        ap (slice_index (slice_set cells row x)) same ∙ get_or-set_same cells row x 0 here ∙ e ∙ ap f (sym same))
    | inr other ↦ get_or-set_other cells row k x 0 other ∙ h.each k (omega arith)
  ];
}

pub no_layer : (c : Contest) (t : ℕ) (layer : Layer) → length layer.uppers.items ≡ rows c → length layer.lowers.items ≡ rows c → HasLayer c t 0 layer
no_layer c t layer high low = record {
  high = record { size = high; each = λ row h. absurd (omega arith) };
  low = record { size = low; each = λ row h. absurd (omega arith) };
}

pub none_found : (c : Contest) (n : ℕ) (found : Found) → n ≡ 0 → found.uppers.items ≡ [] → found.lowers.items ≡ [] → found.moves.items ≡ [] → AreFound c n found
none_found c n found e high low plan = record {
  high = record { size = ap length high ∙ sym e; each = λ k h. absurd (omega arith) };
  low = record { size = ap length low ∙ sym e; each = λ k h. absurd (omega arith) };
  plan = record { size = ap length plan ∙ sym e; each = λ k h. absurd (omega arith) };
}

-- ---- the cell that a table of n numbers lacks is that of (turns left, row)
pub place_turn : (rows t row : ℕ) → row < rows → (t * rows + row) / rows + 1 ≡ t + 1
place_turn rows t row h = ap (λ k. k + 1) (div-mul-add t rows row h)

pub place_row : (rows t row : ℕ) → row < rows → (t * rows + row) % rows ≡ row
place_row rows t row h = mod-mul-add t rows row h

pub one_number_more : (f : ℕ → ℕ → ℕ) (rows t row : ℕ) (numbers : List ℤ) (x : ℕ) → row < rows → HasNumbers f rows (t * rows + row) numbers → x ≡ f (t + 1) row →
    HasNumbers f rows (t * rows + (row + 1)) (numbers ++ pos x ∷ [])
one_number_more f rows t row numbers x inside h e =
    let n = t * rows + row in
    record {
      size = length-append numbers (pos x ∷ []) ∙ ap (λ k. k + 1) h.size ∙ omega arith;
      each = λ k l. elim (cases_lt k n) [
        | inl less ↦ (let here : k < length numbers = rw h.size less in get_or_append_left numbers (pos x ∷ []) (pos 0) k here ∙ h.each k less)
        | inr more ↦ (let same : k ≡ n = omega arith in
            get_or_push numbers (pos x) (pos 0) k (h.size ∙ sym same) ∙ ap pos (e ∙ ap (λ s. f s row) (sym (place_turn rows t row inside)) ∙ ap (f (n / rows + 1)) (sym (place_row rows t row inside)))
            ∙ ap (λ i. pos (f (i / rows + 1) (i % rows))) (sym same))
      ];
    }

pub one_move_more : (f : ℕ → ℕ → Move) (rows t row : ℕ) (moves : List Move) (x : Move) → row < rows → HasMoves f rows (t * rows + row) moves → x ≡ f (t + 1) row →
    HasMoves f rows (t * rows + (row + 1)) (moves ++ x ∷ [])
one_move_more f rows t row moves x inside h e =
    let n = t * rows + row in
    record {
      size = length-append moves (x ∷ []) ∙ ap (λ k. k + 1) h.size ∙ omega arith;
      each = λ k l. elim (cases_lt k n) [
        | inl less ↦ (let here : k < length moves = rw h.size less in get_or_append_left moves (x ∷ []) C k here ∙ h.each k less)
        | inr more ↦ (let same : k ≡ n = omega arith in
            get_or_push moves x C k (h.size ∙ sym same) ∙ e ∙ ap (λ s. f s row) (sym (place_turn rows t row inside)) ∙ ap (f (n / rows + 1)) (sym (place_row rows t row inside))
            ∙ ap (λ i. f (i / rows + 1) (i % rows)) (sym same))
      ];
    }

-- ---- layers
module _ (c : Contest) (ok : IsContest c) where
  pub upper_next : (t row : ℕ) (cells : List ℕ) → HasCells (upper_of c t) (rows c) (rows c) cells → row < rows c →
      ceiling (best_worth c (slice_index cells) row) (one_play c) ≡ upper_of c (t + 1) row
  upper_next t row cells h inside =
      ap (λ b. ceiling b (one_play c)) (best_worth-same c ok (slice_index cells) (upper_of c t) h.each row inside)
      ∙ sym (upper-suc c t row) ∙ ap (λ k. upper_of c k row) (sym (add-one t))

  pub lower_next : (t row : ℕ) (cells : List ℕ) → HasCells (lower_of c t) (rows c) (rows c) cells → row < rows c →
      best_worth c (slice_index cells) row / one_play c ≡ lower_of c (t + 1) row
  lower_next t row cells h inside =
      ap (λ b. b / one_play c) (best_worth-same c ok (slice_index cells) (lower_of c t) h.each row inside)
      ∙ sym (lower-suc c t row) ∙ ap (λ k. lower_of c k row) (sym (add-one t))

  pub plan_next : (t row : ℕ) (cells : List ℕ) → HasCells (lower_of c t) (rows c) (rows c) cells → row < rows c →
      choice_at c (slice_index cells) row ≡ plan_of c (t + 1) row
  plan_next t row cells h inside =
      ap (λ x. choice x (worth c score_units (slice_index cells) row D)) (worth-same c ok (slice_index cells) (lower_of c t) h.each row C inside)
      ∙ ap (λ x. choice (worth c score_units (lower_of c t) row C) x) (worth-same c ok (slice_index cells) (lower_of c t) h.each row D inside)
      ∙ sym (plan-suc c t row) ∙ ap (λ k. plan_of c k row) (sym (add-one t))

  most-few : (game : Payoffs) → IsGame game → most game ≤ 1000000
  most-few game g = let r = g.reward in let s = g.sucker in let t = g.temptation in let p = g.punishment in omega arith

  pub upper-few : (t row : ℕ) → IsGame c.game → t ≤ 2000 → row < rows c → upper_of c t row ≤ 10 ^ 22
  upper-few t row g few inside =
      let a : t * most c.game ≤ 2000 * 1000000 = mul-le-mul few (most-few c.game g) in
      le_trans (upper-high c ok t row inside) (omega (arith, mul-le-mul_right score_units a))

  pub lower-few : (t row : ℕ) → IsGame c.game → t ≤ 2000 → row < rows c → lower_of c t row ≤ 10 ^ 22
  lower-few t row g few inside = le_trans (ordered c ok t row inside) (upper-few t row g few inside)

  pub uppers-few : (t : ℕ) (cells : List ℕ) → IsGame c.game → t ≤ 2000 → HasCells (upper_of c t) (rows c) (rows c) cells → AreFew c cells
  uppers-few t cells g few h = record { size = h.size; few = λ row inside. rw (h.each row inside) (upper-few t row g few inside) }

  pub lowers-few : (t : ℕ) (cells : List ℕ) → IsGame c.game → t ≤ 2000 → HasCells (lower_of c t) (rows c) (rows c) cells → AreFew c cells
  lowers-few t cells g few h = record { size = h.size; few = λ row inside. rw (h.each row inside) (lower-few t row g few inside) }
