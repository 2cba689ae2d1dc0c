-- The exits of states, as rows and states are added.
use Rattle.std.proofs.Common.{◌≡◌, ℕ, zero, suc, ◌+◌, ◌*◌, ◌≤◌, Bool, true, false, cond, ◌||◌, eqb, List, [], ◌∷◌, ◌++◌, length, length-append, map, find, Option, Some, None, is_some, slice_get, set, sum_by, refl, sym, ap, subst, ◌∙◌, inl, inr, arith}
use Rattle.std.proofs.lemmas.Bool.{cases_Bool, eqb-true, eq-eqb, true≢false}
use Rattle.std.proofs.lemmas.Bool.Decides.{nat_tests}
use Rattle.std.proofs.lemmas.List.{map-append}
use Rattle.std.proofs.lemmas.Option.{slice_get-map}
use Rattle.std.proofs.lemmas.List.Sums.{sum_by-cons, sum_by-append}
use Rattle.std.proofs.lemmas.List.Folds.{find-append, list_any-append}
use Rattle.std.specs.Option.{option_map}
use Rattle.std.specs.List.{list_any, IsDistinct, AllByRecursion}
use Rattle.indexmap.specs.IndexSet.{insert_key}
use Rattle.history_model.specs.declared.moves.Move.{Move}
use Rattle.history_model.specs.declared.moves.Move.TheVariants.{C, D}
use Rattle.machine_rows.specs.declared.transition.Transition.{Transition}
use Rattle.machine_rows.specs.declared.transition.Exits.{Exits}
use Rattle.machine_rows.specs.Rows.{leaves, exits_of}
use Rattle.machine_rows.specs.RowsRead.{no_exits, exit_on, exit_set, with_exit, with_room, exit_count, one_if, LeaveThese, AreExits}

-- a state is among the states after one more exactly if it was, or is that one
pub among_more : (s k : ℕ) (ks : List ℕ) → list_any (eqb s) (insert_key eqb ks k) ≡ (list_any (eqb s) ks || eqb s k)
among_more s k ks =
    elim (cases_Bool (list_any (eqb k) ks)) [
      | inl there ↦ rw there (elim (cases_Bool (eqb s k)) [
        | inl same ↦ rw (eqb-true s k same, there)
        | inr other ↦ rw other (grind arith)
      ])
      | inr new ↦ rw new (list_any-append (eqb s) ks (k ∷ []) ∙ grind arith)
    ]

pub leave_more : (ks : List ℕ) (rows : List Transition) (k : ℕ) → LeaveThese ks rows → LeaveThese (insert_key eqb ks k) rows
leave_more ks rows k leave s none =
    leave s (elim (cases_Bool (list_any (eqb s) ks)) [
      | inl there ↦ absurd (true≢false (ap (λ b. b || eqb s k) (sym there) ∙ sym (among_more s k ks) ∙ none))
      | inr new ↦ new
    ])

-- the exits stay those of the states after one more state
pub room_kept : (rows : List Transition) (ks : List ℕ) (k : ℕ) → LeaveThese ks rows
    → with_room ks (map (exits_of rows) ks) k ≡ map (exits_of rows) (insert_key eqb ks k)
room_kept rows ks k leave =
    elim (cases_Bool (list_any (eqb k) ks)) [
      | inl there ↦ rw there
      | inr new ↦ rw new (ap (λ one. map (exits_of rows) ks ++ one ∷ []) (sym (leave k new)) ∙ sym (map-append (exits_of rows) ks (k ∷ [])))
    ]

-- a row behind the others that doesn't leave the state, and one that does
other_row : (p : Transition → Bool) (rows : List Transition) (row : Transition) → p row ≡ false → find p (rows ++ row ∷ []) ≡ find p rows
other_row p [] row fails = rw fails
other_row p (r ∷ rows) row fails = ap (cond (p r) (Some r)) (other_row p rows row fails)

own_row : (p : Transition → Bool) (rows : List Transition) (row : Transition) → find p rows ≡ None → p row ≡ true → find p (rows ++ row ∷ []) ≡ Some row
own_row p rows row none passes = find-append p rows (row ∷ []) ∙ rw (none, passes)

pub found_any : (p : Transition → Bool) (rows : List Transition) → list_any p rows ≡ is_some (find p rows)
found_any p [] = refl
found_any p (r ∷ rows) =
    elim (cases_Bool (p r)) [
      | inl passes ↦ rw passes
      | inr fails ↦ rw fails (found_any p rows)
    ]

pub exits_other : (rows : List Transition) (row : Transition) (s : ℕ) → eqb s row.state ≡ false → exits_of (rows ++ row ∷ []) s ≡ exits_of rows s
exits_other rows row s other =
    let c : leaves s C row ≡ false = rw other in
    let d : leaves s D row ≡ false = rw other in
    rw (other_row (leaves s C) rows row c, other_row (leaves s D) rows row d)

own_exits : (rows : List Transition) (state next : ℕ) (heard play : Move)
    → exit_on heard (exits_of rows state) ≡ None
    → let row : Transition = record { state = state; heard = heard; next = next; play = play } in
    exits_of (rows ++ row ∷ []) state ≡ with_exit (exits_of rows state) row
own_exits rows state next C play none =
    let row : Transition = record { state = state; heard = C; next = next; play = play } in
    let same : eqb state state ≡ true = eq-eqb state state refl in
    let c : leaves state C row ≡ true = rw same in
    let d : leaves state D row ≡ false = rw same in
    rw (own_row (leaves state C) rows row none c, other_row (leaves state D) rows row d)
own_exits rows state next D play none =
    let row : Transition = record { state = state; heard = D; next = next; play = play } in
    let same : eqb state state ≡ true = eq-eqb state state refl in
    let c : leaves state C row ≡ false = rw same in
    let d : leaves state D row ≡ true = rw same in
    rw (own_row (leaves state D) rows row none d, other_row (leaves state C) rows row c)

pub exits_own : (rows : List Transition) (row : Transition) → exit_on row.heard (exits_of rows row.state) ≡ None
    → exits_of (rows ++ row ∷ []) row.state ≡ with_exit (exits_of rows row.state) row
exits_own rows row none = own_exits rows row.state row.next row.heard row.play none

-- what no key but one makes otherwise is changed at that key's place
same_behind : (f g : ℕ → Exits) (k : ℕ) (ks : List ℕ) → ((s : ℕ) → eqb s k ≡ false → g s ≡ f s)
    → AllByRecursion (λ s. eqb k s ≡ false) ks → map f ks ≡ map g ks
same_behind f g k [] same apart = refl
same_behind f g k (s ∷ ks) same apart =
    let other : eqb s k ≡ false = grind (arith, nat_tests, apart.0) in
    rw (same s other) (ap (λ more. f s ∷ more) (same_behind f g k ks same apart.1))

all_at : (P : ℕ → Type 0) (ks : List ℕ) (i k : ℕ) → AllByRecursion P ks → slice_get ks i ≡ Some k → P k
all_at P [] i k all at = absurd cc
all_at P (s ∷ ks) zero k all at = let here : s ≡ k = cc in subst P here all.0
all_at P (s ∷ ks) (suc i) k all at = all_at P ks i k all.1 at

pub set_map : (f g : ℕ → Exits) (k : ℕ) (ks : List ℕ) (i : ℕ) → ((s : ℕ) → eqb s k ≡ false → g s ≡ f s)
    → IsDistinct eqb ks → slice_get ks i ≡ Some k → set (map f ks) i (g k) ≡ map g ks
unfolding IsDistinct
set_map f g k [] i same distinct at = absurd cc
set_map f g k (s ∷ ks) zero same distinct at =
    let here : s ≡ k = cc in
    rw here (ap (λ more. g k ∷ more) (same_behind f g k ks same (rw here at distinct.0)))
set_map f g k (s ∷ ks) (suc i) same distinct at =
    let other : eqb s k ≡ false = all_at (λ y. eqb s y ≡ false) ks i k distinct.0 at in
    rw (same s other) (ap (λ more. f s ∷ more) (set_map f g k ks i same distinct.1 at))

-- an exit that is set where there was none counts one more
pub count_set : (exits : Exits) (row : Transition) → exit_on row.heard exits ≡ None → exit_count (with_exit exits row) ≡ exit_count exits + 1
count_set exits row none = by row.heard exits none
  where
    by : (heard : Move) (exits : Exits) → exit_on heard exits ≡ None → exit_count (exit_set heard exits row) ≡ exit_count exits + 1
    by C exits none = rw none (omega arith)
    by D exits none = rw none (omega arith)

one_at_most : (exit : Option Transition) → one_if exit ≤ 1
one_at_most None = omega arith
one_at_most (Some row) = omega arith

-- a state has at most two exits
pub counts_at_most : (exits : List Exits) → sum_by exit_count exits ≤ 2 * length exits
counts_at_most [] = omega arith
counts_at_most (e ∷ exits) = omega (arith, sum_by-cons exit_count e exits, counts_at_most exits, one_at_most e.on_c, one_at_most e.on_d)

-- one more state leaves the exits right
pub room_held : (rows : List Transition) (ks : List ℕ) (es : List Exits) (k : ℕ) → AreExits rows ks es
    → AreExits rows (insert_key eqb ks k) (with_room ks es k)
room_held rows ks es k held = record {
  exits_are = rw held.exits_are (room_kept rows ks k held.leave_these);
  leave_these = leave_more ks rows k held.leave_these;
  counted = held.counted ∙ sym (same_count ks es k);
}
  where
    same_count : (ks : List ℕ) (es : List Exits) (k : ℕ) → sum_by exit_count (with_room ks es k) ≡ sum_by exit_count es
    same_count ks es k = elim (cases_Bool (list_any (eqb k) ks)) [
      | inl there ↦ rw there
      | inr new ↦ rw new (sum_by-append exit_count es (no_exits ∷ []) ∙ omega arith)
    ]

get_more : {X : Type 0} (xs ys : List X) (i : ℕ) (x : X) → slice_get xs i ≡ Some x → slice_get (xs ++ ys) i ≡ Some x
get_more [] ys i x at = absurd cc
get_more (y ∷ xs) ys zero x at = at
get_more (y ∷ xs) ys (suc i) x at = get_more xs ys i x at

-- a state keeps its number after one more state
pub number_kept : (ks : List ℕ) (k i s : ℕ) → slice_get ks i ≡ Some s → slice_get (insert_key eqb ks k) i ≡ Some s
number_kept ks k i s at =
    elim (cases_Bool (list_any (eqb k) ks)) [
      | inl there ↦ rw there at
      | inr new ↦ rw new (get_more ks (k ∷ []) i s at)
    ]

-- the exits at the place of a state are those of the state
pub exits_at_state : (rows : List Transition) (ks : List ℕ) (es : List Exits) (i s : ℕ) → AreExits rows ks es → slice_get ks i ≡ Some s
    → slice_get es i ≡ Some (exits_of rows s)
exits_at_state rows ks es i s held at = rw held.exits_are (slice_get-map (exits_of rows) ks i ∙ ap (option_map (exits_of rows)) at)

-- whether an earlier row leaves the state of a row on its move
pub doubled_is : (rows : List Transition) (s : ℕ) (heard : Move) → list_any (leaves s heard) rows ≡ is_some (exit_on heard (exits_of rows s))
doubled_is rows s C = found_any (leaves s C) rows
doubled_is rows s D = found_any (leaves s D) rows

pub more_states : (ks : List ℕ) (k : ℕ) → length ks ≤ length (insert_key eqb ks k)
more_states ks k =
    elim (cases_Bool (list_any (eqb k) ks)) [
      | inl there ↦ rw there (omega arith)
      | inr new ↦ rw new (omega (arith, length-append ks (k ∷ [])))
    ]
