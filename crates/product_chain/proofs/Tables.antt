-- Tables, row by row.
use Rattle.std.proofs.Common.{ℕ, ◌≢◌, ◌+◌, ◌≡◌, ◌<◌, List, length, get_or, arith, sym, ap, ◌∙◌, subst, Vec, Global, inl, inr, set}
use Rattle.std.proofs.Math.ListN.{length-set}
use Rattle.std.proofs.lemmas.Bool.{cases_eq}
use Rattle.std.proofs.lemmas.List.{get_or-set_same, get_or-set_other}
use Rattle.std.proofs.lemmas.List.{with_items_is}
use Rattle.std.specs.Vec.{with_items}
use borrow.Author.Count.{below_more}
use Rattle.product_chain.specs.declared.side.Side.{Side}
use Rattle.product_chain.specs.Layer.{Grain, IsRow, IsLayer, own_rows}

abbrev pub Table : Type 0
Table = List (Vec ℕ Global)

abbrev pub items_of : Vec ℕ Global → List ℕ
items_of row = row.items

module _ (table : Table) (k : ℕ) (row : Vec ℕ Global) (within : k < length table) where
  put_same : (d : Vec ℕ Global) → (get_or (set table k row) k d).items ≡ row.items
  put_same d = ap items_of (get_or-set_same table k row d within)

  put_other : (j : ℕ) (d : Vec ℕ Global) → j ≢ k → (get_or (set table k row) j d).items ≡ (get_or table j d).items
  put_other j d other = ap items_of (get_or-set_other table k j row d other)

  -- what holds of the first rows holds of one more
  pub put_next : (P : ℕ → List ℕ → Type 0) → ((j : ℕ) (d : Vec ℕ Global) → j < k → P j (get_or table j d).items) → P k row.items →
      (j : ℕ) (d : Vec ℕ Global) → j < k + 1 → P j (get_or (set table k row) j d).items
  put_next P each here j d h =
      below_more (λ i. P i (get_or (set table k row) i d).items) k
      (λ i g. subst (P i) (sym (put_other i d (let n : i ≢ k = omega (arith, g) in n))) (each i d g))
      (subst (P k) (sym (put_same d)) here) j h

  -- a row is put in place of another of its length
  pub put_sized : (rows width : ℕ) → ((j : ℕ) (d : Vec ℕ Global) → j < rows → length (get_or table j d).items ≡ width) → length row.items ≡ width →
      (j : ℕ) (d : Vec ℕ Global) → j < rows → length (get_or (set table k row) j d).items ≡ width
  put_sized rows width each here j d h = elim (cases_eq j k) [
    | inl same ↦ rw (same, get_or-set_same table k row d within) here
    | inr other ↦ ap length (put_other j d other) ∙ each j d h
  ]

  pub put_length : length (set table k row) ≡ length table
  put_length = length-set table k row

-- a row that was read out of a layer
pub layer_row : (s : Side) (g : Grain) (n u : ℕ) (layer : Table) (row : Vec ℕ Global) (cells : List ℕ) → IsLayer s g n layer → u < own_rows s →
    row ≡ get_or layer u row → cells ≡ row.items → IsRow s g n u cells
layer_row s g n u layer row cells right within read is = subst (IsRow s g n u) (sym (is ∙ ap items_of read)) (right.each u row within)

-- a row that was written
pub written : (row : Vec ℕ Global) (cells : List ℕ) → length cells ≡ length row.items → (with_items row cells).items ≡ cells
written row cells e = with_items_is row cells (e ∙ sym row.ok.0)
