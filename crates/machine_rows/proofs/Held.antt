-- What is held of a machine's rows, after one more row.
use Rattle.std.proofs.Common.{◌≡◌, ℕ, ◌+◌, ◌≤◌, ◌<◌, lt-ltb, le-ltb, true, false, eqb, List, [], ◌∷◌, ◌++◌, length, length-append, Some, None, Option, Ok, Err, is_some, slice_get, get_or, set, refl, sym, ap, ◌∙◌, inl, inr, arith}
use Rattle.std.proofs.lemmas.Bool.{cases_Bool, true≢false}
use Rattle.std.proofs.lemmas.List.{length-map}
use Rattle.std.proofs.lemmas.List.Folds.{list_any_at}
use Rattle.std.proofs.lemmas.List.Sums.{fold-append, sum_by-set}
use Rattle.std.proofs.lemmas.Option.{slice_get_within, get_or_from_slice_get}
use Rattle.std.specs.List.{list_any, IsDistinct}
use Rattle.indexmap.specs.IndexSet.{insert_key}
use Rattle.machine_rows.specs.declared.transition.Transition.{Transition}
use Rattle.machine_rows.specs.declared.transition.Exits.{Exits}
use Rattle.refusals.specs.declared.refusal.Refusal.TheVariants.{BadRows, TooManyRows}
use Rattle.history_model.specs.declared.moves.Move.{Move}
use Rattle.machine_rows.specs.Rows.{exits_of, leaves, with_row, with_states, states_of}
use Rattle.machine_rows.specs.RowsRead.{no_exits, exit_on, with_exit, exit_count, AreExits, IsHeld}
use Rattle.machine_rows.proofs.Exits.{set_map, exits_other, exits_own, count_set, counts_at_most, exits_at_state, doubled_is, number_kept, more_states}

-- at most 256 states have at most 512 rows
pub rows_few : (start : ℕ) (rows : List Transition) (ks : List ℕ) (es : List Exits) → IsHeld start rows ks es → length rows ≤ 512
rows_few start rows ks es held =
    let one_each : length es ≡ length ks = ap length held.right.exits_are ∙ length-map ks (exits_of rows) in
    omega (arith, counts_at_most es, held.right.counted, held.few)

-- the exits after a row that none before doubles
pub exits_more : (rows : List Transition) (row : Transition) (ks : List ℕ) (es : List Exits) (i : ℕ)
    → AreExits rows ks es → IsDistinct eqb ks → slice_get ks i ≡ Some row.state → exit_on row.heard (exits_of rows row.state) ≡ None
    → AreExits (rows ++ row ∷ []) ks (set es i (with_exit (exits_of rows row.state) row))
exits_more rows row ks es i held distinct at none =
    let own = exits_own rows row none in
    let here : slice_get es i ≡ Some (exits_of rows row.state) = exits_at_state rows ks es i row.state held at in
    let inside : i < length es = slice_get_within es i _ here in
    let was : get_or es i no_exits ≡ exits_of rows row.state = get_or_from_slice_get es i _ no_exits here in
    record {
      exits_are = rw (held.exits_are, ← own) (set_map (exits_of rows) (exits_of (rows ++ row ∷ [])) row.state ks i (exits_other rows row) distinct at);
      leave_these = λ s none_here.
          let among : slice_get ks i ≡ Some row.state = at in
          let other : eqb s row.state ≡ false = elim (cases_Bool (eqb s row.state)) [
            | inl same ↦ absurd (true≢false (sym (list_any_at (eqb s) ks i 0 (slice_get_within ks i _ at)
                (rw (get_or_from_slice_get ks i _ 0 at) same)) ∙ none_here))
            | inr new ↦ new
          ] in
          exits_other rows row s other ∙ held.leave_these s none_here;
      counted =
          let after = sum_by-set exit_count es i (with_exit (exits_of rows row.state) row) no_exits inside in
          let before : exit_count (get_or es i no_exits) ≡ exit_count (exits_of rows row.state) = ap exit_count was in
          omega (arith, after, before, count_set (exits_of rows row.state) row none, length-append rows (row ∷ []), held.counted);
    }

-- the states of one more row
pub states_more : (start : ℕ) (rows : List Transition) (row : Transition) → states_of start (rows ++ row ∷ []) ≡ with_states (states_of start rows) row
states_more start rows row = fold-append with_states (start ∷ []) rows (row ∷ [])

-- what is not there
pub none_from : {X : Type 0} (found : Option X) → is_some found ≡ false → found ≡ None
none_from None none = refl
none_from (Some x) none = absurd (true≢false none)

-- whether a row is doubled, as the exits at the place of its state tell
pub doubled_at : (rows : List Transition) (ks : List ℕ) (es : List Exits) (i s : ℕ) (e : Exits) (heard : Move)
    → AreExits rows ks es → slice_get ks i ≡ Some s → slice_get es i ≡ Some e
    → list_any (leaves s heard) rows ≡ is_some (exit_on heard e)
doubled_at rows ks es i s e heard held at here =
    let there = exits_at_state rows ks es i s held at in
    let same : exits_of rows s ≡ e = cc in
    doubled_is rows s heard ∙ ap (λ x. is_some (exit_on heard x)) same

pub inside_exits : (rows : List Transition) (ks : List ℕ) (es : List Exits) (i s : ℕ) → AreExits rows ks es → slice_get ks i ≡ Some s → i < length es
inside_exits rows ks es i s held at = slice_get_within es i _ (exits_at_state rows ks es i s held at)

pub two_states : (start : ℕ) (rows : List Transition) (row : Transition) (ks ks_one ks_two : List ℕ) → ks ≡ states_of start rows
    → ks_one ≡ insert_key eqb ks row.state → ks_two ≡ insert_key eqb ks_one row.next → ks_two ≡ with_states (states_of start rows) row
two_states start rows row ks ks_one ks_two none one two =
    two ∙ ap (λ before. insert_key eqb before row.next) (one ∙ ap (λ before. insert_key eqb before row.state) none)

pub refuses_doubled : (entry start : ℕ) (rows : List Transition) (row : Transition) → list_any (leaves row.state row.heard) rows ≡ true
    → with_row entry start rows (Some row) ≡ Err (BadRows entry (length rows + 1))
refuses_doubled entry start rows row doubled = rw doubled

pub refuses_many : (entry start : ℕ) (rows : List Transition) (row : Transition) (ks : List ℕ) → list_any (leaves row.state row.heard) rows ≡ false
    → ks ≡ with_states (states_of start rows) row → 256 < length ks
    → with_row entry start rows (Some row) ≡ Err (TooManyRows entry)
refuses_many entry start rows row ks new states many = rw (new, states_more start rows row, ← states, lt-ltb 256 (length ks) many)

pub takes_row : (entry start : ℕ) (rows : List Transition) (row : Transition) (ks : List ℕ) → list_any (leaves row.state row.heard) rows ≡ false
    → ks ≡ with_states (states_of start rows) row → length ks ≤ 256
    → with_row entry start rows (Some row) ≡ Ok (rows ++ row ∷ [])
takes_row entry start rows row ks new states few = rw (new, states_more start rows row, ← states, le-ltb 256 (length ks) few)

pub held_more : (start : ℕ) (rows : List Transition) (row : Transition) (ks : List ℕ) (es : List Exits) (ks_one ks_two : List ℕ) (es_two : List Exits) (i : ℕ)
    → IsHeld start rows ks es → ks_one ≡ insert_key eqb ks row.state → ks_two ≡ insert_key eqb ks_one row.next
    → AreExits rows ks_two es_two → IsDistinct eqb ks_two → slice_get ks_one i ≡ Some row.state
    → list_any (leaves row.state row.heard) rows ≡ false → length ks_two ≤ 256
    → IsHeld start (rows ++ row ∷ []) ks_two (set es_two i (with_exit (get_or es_two i no_exits) row))
held_more start rows row ks es ks_one ks_two es_two i held one two right distinct at new few =
    let later : slice_get ks_two i ≡ Some row.state = rw two (number_kept ks_one row.next i row.state at) in
    let none : exit_on row.heard (exits_of rows row.state) ≡ None = none_from _ (sym (doubled_is rows row.state row.heard) ∙ new) in
    let was : get_or es_two i no_exits ≡ exits_of rows row.state = get_or_from_slice_get es_two i _ no_exits (exits_at_state rows ks_two es_two i row.state right later) in
    record {
      states_are = two_states start rows row ks ks_one ks_two held.states_are one two ∙ sym (states_more start rows row);
      right = rw was (exits_more rows row ks_two es_two i right distinct later none);
      some = omega (arith, held.some, more_states ks row.state, more_states ks_one row.next, ap length one, ap length two);
      few = few;
    }
