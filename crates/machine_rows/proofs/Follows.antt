-- The sheet of a machine's rows follows each of them.
use Rattle.std.proofs.Common.{◌≡◌, ℕ, zero, suc, ◌+◌, ◌*◌, Bool, true, false, cond, ◌||◌, eqb, ltb, lt-ltb, List, [], ◌∷◌, ◌++◌, append_assoc, length, map, fold, find, Option, Some, None, Result, Ok, Err, slice_get, slice_index, flat_map, refl, sym, ap, subst, ◌∙◌, inl, inr, arith}
use Rattle.std.proofs.Math.Bool.{or-true}
use Rattle.std.proofs.lemmas.Bool.{cases_Bool, eq-eqb, eqb-true, true≢false}
use Rattle.std.proofs.lemmas.List.{append-nil}
use Rattle.std.proofs.lemmas.List.Folds.{find-append, find_at}
use Rattle.std.proofs.lemmas.Option.{slice_get-map, slice_get_within}
use Rattle.std.specs.List.{list_any, position_or_len}
use Rattle.std.specs.Option.{option_map}
use Rattle.indexmap.specs.IndexSet.{insert_key}
use Rattle.history_model.specs.declared.moves.Move.{Move}
use Rattle.history_model.specs.declared.moves.Move.TheVariants.{C, D}
use Rattle.player_core.specs.Sheet.{SheetData, digit}
use Rattle.refusals.specs.declared.refusal.Refusal.{Refusal}
use Rattle.refusals.specs.Refusing.{◌>>=◌}
use Rattle.machine_rows.specs.declared.transition.Transition.{Transition}
use Rattle.machine_rows.specs.declared.transition.Exits.{Exits}
use Rattle.machine_rows.specs.Rows.{leaves, same_move, with_states, states_of, exits_of, with_row, with_rows, number_of, weights_of, numbers_of, exit_weight, exit_number, finished, all_exits}
use Rattle.machine_rows.specs.RowsRead.{exit_on}
use Rattle.machine_rows.specs.MachineSheet.{weight_of, machine_with}
use Rattle.machine_rows.specs.RowsLaw.{place_of, SheetFollowsRows}
use Rattle.machine_rows.proofs.Exits.{found_any, among_more}
use Rattle.machine_rows.proofs.Held.{none_from}

-- a member stays one, and a new state is one
member_more : (s k : ℕ) (ks : List ℕ) → list_any (eqb s) ks ≡ true → list_any (eqb s) (insert_key eqb ks k) ≡ true
member_more s k ks there = among_more s k ks ∙ ap (λ b. b || eqb s k) there

member_new : (k : ℕ) (ks : List ℕ) → list_any (eqb k) (insert_key eqb ks k) ≡ true
member_new k ks = among_more k k ks ∙ ap (λ b. list_any (eqb k) ks || b) (eq-eqb k k refl) ∙ or-true _

member_kept : (s : ℕ) (ks : List ℕ) (rows : List Transition) → list_any (eqb s) ks ≡ true → list_any (eqb s) (fold with_states ks rows) ≡ true
member_kept s ks [] there = there
member_kept s ks (row ∷ rows) there =
    member_kept s (with_states ks row) rows (member_more s row.next (insert_key eqb ks row.state) (member_more s row.state ks there))

state_in : (ks : List ℕ) (rows : List Transition) (k : ℕ) (row : Transition) → slice_get rows k ≡ Some row
    → list_any (eqb row.state) (fold with_states ks rows) ≡ true
state_in ks [] k row at = absurd cc
state_in ks (r ∷ rows) zero row at =
    let here : r ≡ row = cc in
    rw here (member_kept row.state (with_states ks row) rows (member_more row.state row.next (insert_key eqb ks row.state) (member_new row.state ks)))
state_in ks (r ∷ rows) (suc k) row at = state_in (with_states ks r) rows k row at

next_in : (ks : List ℕ) (rows : List Transition) (k : ℕ) (row : Transition) → slice_get rows k ≡ Some row
    → list_any (eqb row.next) (fold with_states ks rows) ≡ true
next_in ks [] k row at = absurd cc
next_in ks (r ∷ rows) zero row at =
    let here : r ≡ row = cc in
    rw here (member_kept row.next (with_states ks row) rows (member_new row.next (insert_key eqb ks row.state)))
next_in ks (r ∷ rows) (suc k) row at = next_in (with_states ks r) rows k row at

-- the number of a state is its place
find_state : (s : ℕ) (ks : List ℕ) → list_any (eqb s) ks ≡ true → find (eqb s) ks ≡ Some s
find_state s [] there = absurd (true≢false (sym there))
find_state s (k ∷ ks) there =
    elim (cases_Bool (eqb s k)) [
      | inl same ↦ rw (same, eqb-true s k same)
      | inr other ↦ rw other (find_state s ks (sym (ap (λ b. b || list_any (eqb s) ks) other) ∙ there))
    ]

pub number_is_place : (s : ℕ) (ks : List ℕ) → list_any (eqb s) ks ≡ true → slice_get ks (number_of ks s) ≡ Some s
number_is_place s ks there =
    let at : slice_get ks (position_or_len (eqb s) ks) ≡ Some s = sym (find_at (eqb s) ks) ∙ find_state s ks there in
    let inside : ltb (position_or_len (eqb s) ks) (length ks) ≡ true = lt-ltb _ _ (slice_get_within ks _ s at) in
    rw inside at

-- rows that are all taken are the rows, and each is the first to leave its state on its move
pub record AreTaken (before rest now : List Transition) : Type 0 where
  pub all : now ≡ before ++ rest
  pub first : (k : ℕ) (row : Transition) → slice_get rest k ≡ Some row → find (leaves row.state row.heard) (before ++ rest) ≡ Some row

same_itself : (heard : Move) → same_move heard heard ≡ true
same_itself C = refl
same_itself D = refl

leaves_own : (row : Transition) → leaves row.state row.heard row ≡ true
leaves_own row = rw (eq-eqb row.state row.state refl) (same_itself row.heard)

-- a row that is taken is doubled by none before
taken_by : (doubled many : Bool) (first second : Refusal) (rows now : List Transition) → cond doubled (Err first) (cond many (Err second) (Ok rows)) ≡ Ok now
    → (doubled ≡ false) × (now ≡ rows)
taken_by true many first second rows now taken = absurd cc
taken_by false true first second rows now taken = absurd cc
taken_by false false first second rows now taken = (refl, cc)

bind_ok : {A B : Type 0} (reading : Result A Refusal) (next : A → Result B Refusal) (y : B) → (reading >>= next) ≡ Ok y
    → (x : A) × (reading ≡ Ok x) × (next x ≡ Ok y)
bind_ok (Ok x) next y done = (x, refl, done)
bind_ok (Err refusal) next y done = absurd cc

first_taken : (before rest : List Transition) (r : Transition) (k : ℕ) (row : Transition) → list_any (leaves r.state r.heard) before ≡ false
    → ((j : ℕ) (q : Transition) → slice_get rest j ≡ Some q → find (leaves q.state q.heard) ((before ++ r ∷ []) ++ rest) ≡ Some q)
    → slice_get (r ∷ rest) k ≡ Some row → find (leaves row.state row.heard) (before ++ r ∷ rest) ≡ Some row
first_taken before rest r zero row new later at =
    let here : r ≡ row = cc in
    let none : find (leaves r.state r.heard) before ≡ None = none_from _ (sym (found_any (leaves r.state r.heard) before) ∙ new) in
    let P : Transition → Type 0 = λ q. find (leaves q.state q.heard) (before ++ r ∷ rest) ≡ Some q in
    subst P here (find-append (leaves r.state r.heard) before (r ∷ rest) ∙ rw (none, leaves_own r))
first_taken before rest r (suc k) row new later at =
    let P : List Transition → Type 0 = λ all. find (leaves row.state row.heard) all ≡ Some row in
    subst P (append_assoc before (r ∷ []) rest) (later k row at)

all_taken : (entry start : ℕ) (before rest now : List Transition) → with_rows entry start before (map Some rest) ≡ Ok now → AreTaken before rest now
all_taken entry start before [] now took =
    let same : before ≡ now = cc in
    record { all = sym same ∙ sym (append-nil before); first = λ k row at. absurd cc }
all_taken entry start before (r ∷ rest) now took =
    let (mid, first, more) = bind_ok (with_row entry start before (Some r)) (λ mid. with_rows entry start mid (map Some rest)) now took in
    let (new, is) = taken_by _ _ _ _ _ mid first in
    let P : List Transition → Type 0 = λ mid. with_rows entry start mid (map Some rest) ≡ Ok now in
    let ih = all_taken entry start (before ++ r ∷ []) rest now (subst P is more) in
    record {
      all = ih.all ∙ append_assoc before (r ∷ []) rest;
      first = λ k row at. first_taken before rest r k row new ih.first at;
    }

-- a list of two numbers for each state, read at one of them
pair_at : (f g : Exits → ℕ) (es : List Exits) (i : ℕ) (e : Exits) → slice_get es i ≡ Some e
    → (slice_index (flat_map (λ x. f x ∷ g x ∷ []) es) (2 * i) ≡ f e) × (slice_index (flat_map (λ x. f x ∷ g x ∷ []) es) (2 * i + 1) ≡ g e)
pair_at f g [] i e at = absurd cc
pair_at f g (x ∷ es) zero e at = let here : x ≡ e = cc in (ap f here, ap g here)
pair_at f g (x ∷ es) (suc i) e at =
    let even : 2 * suc i ≡ suc (suc (2 * i)) = omega arith in
    let odd : 2 * suc i + 1 ≡ suc (suc (2 * i + 1)) = omega arith in
    let ih = pair_at f g es i e at in
    let P : ℕ → Type 0 = λ n. slice_index (flat_map (λ x. f x ∷ g x ∷ []) (x ∷ es)) n ≡ f e in
    let Q : ℕ → Type 0 = λ n. slice_index (flat_map (λ x. f x ∷ g x ∷ []) (x ∷ es)) n ≡ g e in
    (subst P (sym even) ih.0, subst Q (sym odd) ih.1)

read_exit : (number : Option Transition → ℕ) (heard : Move) (es : List Exits) (i : ℕ) (e : Exits) (row : Transition) → slice_get es i ≡ Some e
    → exit_on heard e ≡ Some row → slice_index (flat_map (λ x. number x.on_c ∷ number x.on_d ∷ []) es) (2 * i + digit heard) ≡ number (Some row)
read_exit number C es i e row at on =
    let P : ℕ → Type 0 = λ n. slice_index (flat_map (λ x. number x.on_c ∷ number x.on_d ∷ []) es) n ≡ number e.on_c in
    let even : 2 * i ≡ 2 * i + 0 = omega arith in
    subst P even (pair_at (λ x. number x.on_c) (λ x. number x.on_d) es i e at).0 ∙ ap number on
read_exit number D es i e row at on = (pair_at (λ x. number x.on_c) (λ x. number x.on_d) es i e at).1 ∙ ap number on

own_exit : (rows : List Transition) (state : ℕ) (heard : Move) (row : Transition) → find (leaves state heard) rows ≡ Some row
    → exit_on heard (exits_of rows state) ≡ Some row
own_exit rows state C row found = found
own_exit rows state D row found = found

finished_is : (whole : Bool) (made sheet : SheetData) (refusal : Refusal) → cond whole (Ok made) (Err refusal) ≡ Ok sheet → made ≡ sheet
finished_is true made sheet refusal done = cc
finished_is false made sheet refusal done = absurd cc

pub follows_rows : SheetFollowsRows
follows_rows entry start opening rows sheet done k row at =
    let (now, took, made) = bind_ok (with_rows entry start [] (map Some rows)) (finished entry start opening) sheet done in
    let taken = all_taken entry start [] rows now took in
    let P : List Transition → Type 0 = λ now. finished entry start opening now ≡ Ok sheet in
    let is : machine_with opening (weights_of (all_exits start rows)) (numbers_of (states_of start rows) (all_exits start rows)) ≡ sheet =
    finished_is _ _ sheet _ (subst P taken.all made) in
    let states = states_of start rows in
    let here : slice_get states (number_of states row.state) ≡ Some row.state = number_is_place row.state states (state_in (start ∷ []) rows k row at) in
    let exit : slice_get (all_exits start rows) (number_of states row.state) ≡ Some (exits_of rows row.state) =
    slice_get-map (exits_of rows) states (number_of states row.state) ∙ ap (option_map (exits_of rows)) here in
    let on : exit_on row.heard (exits_of rows row.state) ≡ Some row = own_exit rows row.state row.heard row (taken.first k row at) in
    let Plays : SheetData → Type 0 = λ s. slice_index s.table (place_of states row) ≡ weight_of row.play in
    let Goes : SheetData → Type 0 = λ s. slice_get states (slice_index s.next (place_of states row)) ≡ Some row.next in
    let number : slice_index (numbers_of states (all_exits start rows)) (place_of states row) ≡ number_of states row.next =
    read_exit (exit_number states) row.heard (all_exits start rows) _ _ row exit on in
    record {
      state = here;
      play = subst Plays is (read_exit exit_weight row.heard (all_exits start rows) _ _ row exit on);
      next = subst Goes is (rw number (number_is_place row.next states (next_in (start ∷ []) rows k row at)));
    }
