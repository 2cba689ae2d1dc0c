-- A player of a side takes a sheet, and then plays a match.
use Rattle.std.proofs.Common.{◌≡◌, ℕ, zero, suc, [], ◌∷◌, ◌+◌, ◌*◌, ◌^◌, ◌<◌, ◌≤◌, List, length, slice_set, sym, ◌∙◌, ap, subst, arith, refl, get_or-set_same, length-set}
use Rattle.std.proofs.lemmas.List.{length-map}
use Rattle.history_model.specs.declared.tally.Tally.{Tally}
use Rattle.history_model.specs.Automaton.{Automaton, IsAutomaton, IsSure}
use Rattle.history_model.specs.History.{History}
use Rattle.history_model.specs.Path.{match_path}
use Rattle.history_model.specs.Tally.{counts, total, CountsArePaid}
use Rattle.player_core.specs.State.{BenchState, PlayerState, Lasting, IsState, more, state_at, lasting_at, lasting_of}
use Rattle.player_core.specs.Sheet.{SheetData, Takes}
use Rattle.player_core.specs.AutomatonOf.{automaton_of, loaded}
use Rattle.player_core.specs.Bench.{KeepsPlugs}
use Rattle.player_core.specs.Counts.{Advanced, turns_of}
use Rattle.player_core.specs.Laws.{CountsAddUp, KeepingLasts, OneChange}
use Rattle.match_play.specs.Fresh.{IsFresh}
use Rattle.match_play.specs.Match.{AdvancedAtMost, after_match, HasPlayed}
use Rattle.match_play.specs.Followed.{HasFollowed, FollowedOnBench}

pub record SideMoved (old mid new : List PlayerState) (k turns : ℕ) (sheet : SheetData) (after : PlayerState) : Type 0 where
  pub inside : k < length old
  pub load : mid ≡ slice_set old k (loaded (state_at old k) sheet)
  pub kept : KeepsPlugs (lasting_of old) (lasting_of mid)
  pub played : new ≡ slice_set mid k after
  pub lasting : after.lasting ≡ (state_at mid k).lasting
  pub counted : after.turns ≡ more (state_at mid k).turns turns
  pub valid : IsState (state_at mid k)

pub inside_states : (states : List PlayerState) (k : ℕ) → k < length (lasting_of states) → k < length states
inside_states states k h = omega (arith, h, length-map states (λ (state : PlayerState). state.lasting))

pub loaded_there : (old mid : List PlayerState) (k : ℕ) (sheet : SheetData) → k < length old → mid ≡ slice_set old k (loaded (state_at old k) sheet)
    → state_at mid k ≡ loaded (state_at old k) sheet
loaded_there old mid k sheet inside load = rw load (get_or-set_same old k (loaded (state_at old k) sheet) _ inside)

-- the automaton of the player that has taken the sheet
pub loaded_plays : OneChange → (old mid : List PlayerState) (k : ℕ) (sheet : SheetData) → k < length old → mid ≡ slice_set old k (loaded (state_at old k) sheet)
    → (state_at mid k).lasting.automaton ≡ automaton_of sheet (lasting_at (lasting_of old) k).automaton
loaded_plays change old mid k sheet inside load =
    ap (λ (s : PlayerState). s.lasting.automaton) (loaded_there old mid k sheet inside load)
    ∙ ap (λ (a : Automaton). automaton_of sheet a) (sym (ap (λ l. l.automaton) (change.read old k)))

pub is_automaton_too : (a b : Automaton) → a ≡ b → IsAutomaton a → IsAutomaton b
is_automaton_too a b same valid = subst (λ x. IsAutomaton x) same valid

pub is_sure_too : (a b : Automaton) → b ≡ a → IsSure a → IsSure b
is_sure_too a b e h = let P : Automaton → Type 0 = λ x. IsSure x in subst P (sym e) h

pub same_tally : (a a' b b' : Automaton) (n : ℕ) (tally : Tally) → a ≡ a' → b ≡ b' → tally ≡ counts (match_path a b n) → tally ≡ counts (match_path a' b' n)
same_tally a a' b b' n tally ea eb e = e ∙ ap (λ x. counts (match_path x b n)) ea ∙ ap (λ y. counts (match_path a' y n)) eb

pub as_long : CountsArePaid → (tally : Tally) (history : History) (n : ℕ) → tally ≡ counts history → total tally ≡ n → length history ≡ n
as_long paid tally history n e whole =
    sym (paid (record { r = 0; s = 0; t = 0; p = 0 }) history).turns ∙ sym (ap total e) ∙ whole

-- the player that has taken the sheet followed its match, on the left
pub left_moved : (old mid new : List PlayerState) (k turns : ℕ) (sheet : SheetData) (right right_end : PlayerState) → k < length old
    → mid ≡ slice_set old k (loaded (state_at old k) sheet) → KeepsPlugs (lasting_of old) (lasting_of mid) → IsState (state_at mid k)
    → new ≡ slice_set mid k (state_at new k) → (f : HasFollowed (state_at mid k) right (state_at new k) right_end turns)
    → SideMoved old mid new k f.steps sheet (state_at new k)
left_moved old mid new k turns sheet right right_end inside load kept valid others f = record {
  inside = inside;
  load = load;
  kept = kept;
  played = others;
  lasting = ap (λ (s : PlayerState). s.lasting) f.left_is;
  counted = ap (λ (s : PlayerState). s.turns) f.left_is;
  valid = valid;
}

-- and on the right
pub right_moved : (old mid new : List PlayerState) (k turns : ℕ) (sheet : SheetData) (left left_end : PlayerState) → k < length old
    → mid ≡ slice_set old k (loaded (state_at old k) sheet) → KeepsPlugs (lasting_of old) (lasting_of mid) → IsState (state_at mid k)
    → new ≡ slice_set mid k (state_at new k) → (f : HasFollowed left (state_at mid k) left_end (state_at new k) turns)
    → SideMoved old mid new k f.steps sheet (state_at new k)
right_moved old mid new k turns sheet left left_end inside load kept valid others f = record {
  inside = inside;
  load = load;
  kept = kept;
  played = others;
  lasting = ap (λ (s : PlayerState). s.lasting) f.right_is;
  counted = ap (λ (s : PlayerState). s.turns) f.right_is;
  valid = valid;
}

-- the match of two players that have taken their sheets, as that of what the sheets play
pub bench_followed : (a b : Automaton) (left right left_end right_end : PlayerState) (turns : ℕ) (old_left new_left old_right new_right : List PlayerState)
    → left.lasting.automaton ≡ a → right.lasting.automaton ≡ b → (f : HasFollowed left right left_end right_end turns)
    → Advanced f.steps old_left new_left → Advanced f.steps old_right new_right → FollowedOnBench a b turns old_left new_left old_right new_right
bench_followed a b left right left_end right_end turns old_left new_left old_right new_right left_plays right_plays f left_advanced right_advanced =
    let P : Automaton → Type 0 = λ x. f.steps ≤ 2 * (length x.rows * length right.lasting.automaton.rows) in
    let Q : Automaton → Type 0 = λ y. f.steps ≤ 2 * (length a.rows * length y.rows) in
    let S : Automaton → Type 0 = λ x. (j : ℕ) → IsFresh x right.lasting.automaton turns j → j ≤ f.steps in
    let T : Automaton → Type 0 = λ y. (j : ℕ) → IsFresh a y turns j → j ≤ f.steps in
    record {
      steps = f.steps;
      within = subst Q right_plays (subst P left_plays f.within);
      fresh = subst T right_plays (subst S left_plays f.fresh);
      left_advanced = left_advanced;
      right_advanced = right_advanced;
    }

pub side_kept : KeepingLasts → OneChange → (old mid new : List PlayerState) (k turns : ℕ) (sheet : SheetData) (after : PlayerState)
    → SideMoved old mid new k turns sheet after → KeepsPlugs (lasting_of old) (lasting_of new)
side_kept keeping change old mid new k turns sheet after moved =
    let automaton : after.lasting.automaton ≡ (state_at mid k).lasting.automaton = ap (λ (l : Lasting). l.automaton) moved.lasting in
    keeping.both (lasting_of old) (lasting_of mid) (lasting_of new) moved.kept
    (change.kept mid new k after moved.played (record {
      kind = ap (λ (l : Lasting). l.kind) moved.lasting;
      name = ap (λ (l : Lasting). l.name) moved.lasting;
      automaton = λ _. automaton;
    }))

pub more_none : (n : ℕ) → n < 2 ^ 64 → n ≡ more n 0
more_none n fits = omega (arith, fits)

pub side_advanced : OneChange → CountsAddUp → (old mid new : List PlayerState) (k turns : ℕ) (sheet : SheetData) (after : PlayerState)
    → SideMoved old mid new k turns sheet after → Advanced turns old new
side_advanced change adding old mid new k turns sheet after moved =
    let there = loaded_there old mid k sheet moved.inside moved.load in
    let same : (state_at mid k).turns ≡ (state_at old k).turns = ap (λ (s : PlayerState). s.turns) there in
    let fits : (state_at old k).turns < 2 ^ 64 = omega (arith, same, moved.valid.turns_fit) in
    let inside : k < length mid = let e : length mid ≡ length old = ap length moved.load ∙ length-set old k _ in omega (arith, e, moved.inside) in
    let first = change.turns old mid k 0 (loaded (state_at old k) sheet) moved.load moved.inside fits (more_none (state_at old k).turns fits) in
    let second = change.turns mid new k turns after moved.played inside moved.valid.turns_fit moved.counted in
    let none : 0 + turns ≡ turns = omega arith in
    let P : ℕ → Type 0 = λ n. Advanced n old new in
    subst P none (adding.both 0 turns (turns_of old) (turns_of mid) (turns_of new) first second)

-- the turns of a match are counted
pub counted_on : (count turns : ℕ) (history : History) → length history ≡ turns → more count (length history) ≡ more count turns
counted_on count turns history long = ap (λ n. more count n) long

-- a place that changes twice in a row keeps the last
set_again : (states : List PlayerState) (k : ℕ) (first second : PlayerState) → slice_set (slice_set states k first) k second ≡ slice_set states k second
set_again [] k first second = refl
set_again (state ∷ rest) zero first second = refl
set_again (state ∷ rest) (suc k) first second = ap (λ (states : List PlayerState). state ∷ states) (set_again rest k first second)

-- the player that takes the sheet, and nobody else, has played
side_after : (old mid new : List PlayerState) (k : ℕ) (sheet : SheetData) (seen history : History) → k < length old
    → mid ≡ slice_set old k (loaded (state_at old k) sheet) → new ≡ slice_set mid k (after_match (state_at mid k) seen) → seen ≡ history
    → new ≡ slice_set old k (after_match (loaded (state_at old k) sheet) history)
side_after old mid new k sheet seen history inside load played same =
    played
    ∙ ap (λ (state : PlayerState). slice_set mid k (after_match state seen)) (loaded_there old mid k sheet inside load)
    ∙ ap (λ (states : List PlayerState). slice_set states k (after_match (loaded (state_at old k) sheet) seen)) load
    ∙ set_again old k (loaded (state_at old k) sheet) (after_match (loaded (state_at old k) sheet) seen)
    ∙ ap (λ (h : History). slice_set old k (after_match (loaded (state_at old k) sheet) h)) same

pub same_path : (a a' b b' : Automaton) (n : ℕ) → a ≡ a' → b ≡ b' → match_path a b n ≡ match_path a' b' n
same_path a a' b b' n ea eb = ap (λ x. match_path x b n) ea ∙ ap (λ y. match_path a' y n) eb

pub has_played : OneChange → (old mid new : List PlayerState) (k : ℕ) (sheet : SheetData) (seen history : History) → k < length old
    → mid ≡ slice_set old k (loaded (state_at old k) sheet) → new ≡ slice_set mid k (after_match (state_at mid k) seen) → seen ≡ history
    → Takes (lasting_at (lasting_of old) k) sheet → HasPlayed old new sheet history
has_played change old mid new k sheet seen history inside load played same takes = record {
  place = k;
  inside = inside;
  takes = let P : Lasting → Type 0 = λ l. Takes l sheet in subst P (change.read old k) takes;
  after = side_after old mid new k sheet seen history inside load played same;
}

-- in a match of two automata a side makes at most as many advances as their pairs of rows allow
pub followed_at_most : (a b : Automaton) (turns : ℕ) (old new : BenchState) → FollowedOnBench a b turns old.left new.left old.right new.right
    → let most = 2 * (length a.rows * length b.rows) in AdvancedAtMost most most old new
followed_at_most a b turns old new f = record {
  left = omega (arith, f.within, f.left_advanced.most);
  right = omega (arith, f.within, f.right_advanced.most);
}
