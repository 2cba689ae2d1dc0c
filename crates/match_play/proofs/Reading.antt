-- A player of a side takes a sheet, and is then read.
use Rattle.std.proofs.Common.{◌≡◌, ◌↔◌, Bool, IsTrue, ℕ, ◌+◌, ◌*◌, ◌^◌, ◌≤◌, ◌<◌, List, length, map, slice_set, slice_index, slice_index_or, sum, sym, ◌∙◌, ap, subst, arith}
use Rattle.std.proofs.lemmas.List.{length-map, map-set}
use Rattle.std.proofs.lemmas.List.Sums.{sum_by-set}
use Rattle.std.proofs.Math.ListN as listn
use Rattle.history_model.specs.Automaton.{Automaton, IsSure}
use Rattle.player_core.specs.State.{PlayerState, Lasting, IsState, more, state_at, no_state}
use Rattle.player_core.specs.Sheet.{SheetData}
use Rattle.player_core.specs.AutomatonOf.{loaded}
use Rattle.player_core.specs.Bench.{KeepsPlugs, is_sure}
use Rattle.player_core.specs.Counts.{Advanced, NoneFell, side_turns, turns_of}
use Rattle.player_core.specs.Laws.{CountsAddUp, OneChange, SureIsTested}
use Rattle.player_core.proofs.Sides.{map_read}
use Rattle.match_play.proofs.Moving.{loaded_there, more_none}

-- the player at a place was advanced, by a count that hangs on its state
pub one_counted : OneChange → {A : Type 0} (f : A → PlayerState) (xs : List A) (i : ℕ) (x y : A) (count : PlayerState → ℕ)
    → i < length (map f xs) → x ≡ slice_index_or xs i x → (state_at (map f xs) i).turns < 2 ^ 64
    → (f y).turns ≡ more (f x).turns (count (f x)) → Advanced (count (state_at (map f xs) i)) (map f xs) (map f (slice_set xs i y))
one_counted change f xs i x y count inside is fits counted =
    let there : f x ≡ state_at (map f xs) i = map_read f xs i x no_state inside is in
    let P : PlayerState → Type 0 = λ s. (f y).turns ≡ more s.turns (count s) in
    change.turns (map f xs) (map f (slice_set xs i y)) i (count (state_at (map f xs) i)) (f y) (map-set f xs i y) inside
    fits (subst P there counted)

-- it was read after it had taken the sheet
pub side_read : OneChange → CountsAddUp → (old mid new : List PlayerState) (k : ℕ) (sheet : SheetData) (a : Automaton) → k < length old
    → mid ≡ slice_set old k (loaded (state_at old k) sheet) → IsState (state_at mid k) → (state_at mid k).lasting.automaton ≡ a
    → Advanced (4 * length (state_at mid k).lasting.automaton.rows) mid new → Advanced (4 * length a.rows) old new
side_read change adding old mid new k sheet a inside load valid plays counted =
    let same : (state_at mid k).turns ≡ (state_at old k).turns =
    ap (λ (s : PlayerState). s.turns) (loaded_there old mid k sheet inside load) in
    let fits : (state_at old k).turns < 2 ^ 64 = omega (arith, same, valid.turns_fit) in
    let first : Advanced 0 old mid =
    change.turns old mid k 0 (loaded (state_at old k) sheet) load inside fits (more_none (state_at old k).turns fits) in
    let P : Automaton → Type 0 = λ x. Advanced (4 * length x.rows) mid new in
    let none : 0 + 4 * length a.rows ≡ 4 * length a.rows = omega arith in
    let Q : ℕ → Type 0 = λ n. Advanced n old new in
    subst Q none (adding.both 0 (4 * length a.rows) (turns_of old) (turns_of mid) (turns_of new) first (subst P plays counted))

-- ---- at most

sum_set : (counts : List ℕ) (k x : ℕ) → k < length counts → sum (slice_set counts k x) + slice_index counts k ≡ sum counts + x
sum_set counts k x h = sum_by-set (λ c. c) counts k x 0 h

-- one player of a side made at most n advances
most_set : (states : List PlayerState) (k n : ℕ) (state : PlayerState) → k < length states → state.turns ≤ (state_at states k).turns + n
    → side_turns (slice_set states k state) ≤ side_turns states + n
most_set states k n state inside few =
    let read : slice_index (turns_of states) k ≡ (state_at states k).turns = listn.get_or-map (λ s. s.turns) states k no_state in
    let e = sum_set (turns_of states) k state.turns (omega (arith, inside, length-map states (λ (s : PlayerState). s.turns))) in
    rw map-set (omega (arith, e, read, few))

-- the player at a place made at most so many advances as a count of its state says
pub one_at_most : {A : Type 0} (f : A → PlayerState) (xs : List A) (i : ℕ) (x y : A) (count : PlayerState → ℕ)
    → i < length (map f xs) → x ≡ slice_index_or xs i x → (f y).turns ≤ more (f x).turns (count (f x))
    → side_turns (map f (slice_set xs i y)) ≤ side_turns (map f xs) + count (state_at (map f xs) i)
one_at_most f xs i x y count inside is few =
    let there : f x ≡ state_at (map f xs) i = map_read f xs i x no_state inside is in
    let P : PlayerState → Type 0 = λ s. (f y).turns ≤ more s.turns (count s) in
    let here = subst P there few in
    rw map-set (most_set (map f xs) i (count (state_at (map f xs) i)) (f y) inside (omega (arith, here)))

-- a side on which a player took its sheet, and was read as far as there was memory
pub read_at_most : (old mid : List PlayerState) (now k : ℕ) (a : Automaton) → turns_of mid ≡ turns_of old → (state_at mid k).lasting.automaton ≡ a
    → now ≤ side_turns mid + 4 * length (state_at mid k).lasting.automaton.rows → now ≤ side_turns old + 4 * length a.rows
read_at_most old mid now k a same plays few =
    let P : Automaton → Type 0 = λ x. now ≤ side_turns mid + 4 * length x.rows in
    let here = subst P plays few in
    omega (arith, here, ap sum same)

-- a side that made no advance made no more than n
pub none_at_most : (old new : List PlayerState) (n : ℕ) → turns_of new ≡ turns_of old → side_turns new ≤ side_turns old + n
none_at_most old new n same = omega (arith, ap sum same)

-- ---- sureness

-- what is told of the player that has taken a sheet is told of what the sheet plays
pub sure_there : (a b : Automaton) (sure : Bool) → a ≡ b → IsTrue sure ↔ IsSure a → IsTrue sure ↔ IsSure b
sure_there a b sure plays tells = let P : Automaton → Type 0 = λ x. IsTrue sure ↔ IsSure x in subst P plays tells

-- what lasts has not changed since a load
pub same_kept : (old mid new : List Lasting) → new ≡ mid → KeepsPlugs old mid → KeepsPlugs old new
same_kept old mid new same kept = let P : List Lasting → Type 0 = λ players. KeepsPlugs old players in subst P (sym same) kept

-- no count has fallen since a load
pub none_fell_after : (old mid new : List ℕ) → mid ≡ old → NoneFell mid new → NoneFell old new
none_fell_after old mid new same fell = let P : List ℕ → Type 0 = λ counts. NoneFell counts new in subst P same fell

-- the test of sureness tells it of the player at a place
pub sure_at : SureIsTested → {A : Type 0} (f : A → PlayerState) (xs : List A) (i : ℕ) (x : A) (sure : Bool) → i < length (map f xs) → x ≡ slice_index_or xs i x
    → sure ≡ is_sure (f x).lasting.automaton → IsTrue sure ↔ IsSure (state_at (map f xs) i).lasting.automaton
sure_at tested f xs i x sure inside read is =
    let there : f x ≡ state_at (map f xs) i = map_read f xs i x no_state inside read in
    let P : Bool → Type 0 = λ b. IsTrue b ↔ IsSure (state_at (map f xs) i).lasting.automaton in
    let told : sure ≡ is_sure (state_at (map f xs) i).lasting.automaton = is ∙ ap (λ (s : PlayerState). is_sure s.lasting.automaton) there in
    subst P (sym told) (tested (state_at (map f xs) i).lasting.automaton)
