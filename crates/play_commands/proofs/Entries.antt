-- What the notes of a bench's plugs tell of the entries of a lab.
use Rattle.std.proofs.Common.{◌≡◌, ℕ, ◌*◌, ◌^◌, ◌<◌, ◌≤◌, Bool, true, false, ◌&&◌, List, length, refl}
use Rattle.std.specs.Prelude.{nat_lt, Result, Ok, Err, if◌then◌else◌}
use Rattle.std.proofs.lemmas.Bool.{ltb-false}
use Rattle.refusals.specs.declared.refusal.Refusal.{Refusal}
use Rattle.refusals.specs.declared.refusal.Refusal.TheVariants.{TooManyTurns, TooMuchWork}
use Rattle.history_model.specs.Automaton.{IsSure}
use Rattle.player_core.specs.State.{Lasting}
use Rattle.player_core.specs.Fits.{SidesFit}
use Rattle.player_core.specs.Sheet.{IsSheet}
use Rattle.player_core.specs.Bench.{notes_of}
use Rattle.sheet_rules.specs.Entrants.{Entrant, IsSurePair, automaton_of_entrant}
use Rattle.round_robin.specs.Contest.{IsShort, strategy_of_entrant}
use Rattle.round_robin.specs.Entries.{IsEntry}
use Rattle.lab_file.specs.Lab.{LabData, entry_at, no_entry}
use Rattle.lab_file.specs.Limits.{limits_by, pair_is_sure, pair_limits}
use Rattle.lab_file.specs.Notes.{IsNoted, IsNotedDraft, AreNoted, NotesTell}
use Rattle.lab_file.specs.Rows.{entry_rows}
use Rattle.lab_file.specs.Sure.{entry_is_sure}
use Rattle.play_commands.specs.Entrants.{IsEntrant}

first : (a b : Bool) → (a && b) ≡ true → a ≡ true
first true b e = cc
first false b e = absurd (cc)

second : (a b : Bool) → (a && b) ≡ true → b ≡ true
second true b e = e
second false b e = absurd (cc)

abbrev limits_told : Bool → Bool → Result (Unit {0}) Refusal
limits_told long much = if long then Err TooManyTurns else if much then Err TooMuchWork else Ok tt

not_long : (long much : Bool) → limits_told long much ≡ Ok tt → long ≡ false
not_long true much kept = absurd (cc)
not_long false much kept = refl

-- a match that isn't sure and keeps the limits has few turns
few_turns_by : (sure : Bool) (left right turns : ℕ) → sure ≡ false → limits_by sure left right turns ≡ Ok tt → turns ≤ 10000
few_turns_by true left right turns unsure kept = absurd (cc)
few_turns_by false left right turns unsure kept = ltb-false 10000 turns (not_long (nat_lt 10000 turns) (nat_lt 30000000 (left * right * turns)) kept)

module _ (tell : NotesTell) (players on_the_right : List Lasting) (fits : SidesFit players on_the_right) (lab : LabData) (noted : AreNoted (notes_of players) lab.entries) where
  module _ (place : ℕ) (entrant : Entrant) (inside : place < length lab.entries) (is : IsEntrant lab place entrant) where
    -- its plug has a note
    sheet_noted : IsNoted (notes_of players) entrant.sheet
    sheet_noted = let own : IsNotedDraft (notes_of players) (entry_at lab.entries place).draft = noted place no_entry inside in rw is.sheet at own

    -- the bench has the players of its sheet
    pub is_entry : IsSheet entrant.sheet → IsEntry players entrant
    is_entry valid = record { valid = valid; known = λ none. tell.known players entrant.sheet sheet_noted none }

    one_sure : entry_is_sure (notes_of players) (entry_at lab.entries place) ≡ true → (entrant.noise.n ≡ 0) × IsSure (automaton_of_entrant players entrant)
    one_sure e =
        let t = (tell.sure players (entry_at lab.entries place) entrant.sheet is.sheet sheet_noted).0 e in
        (rw is.noise at t.0, t.1)

  -- a match that keeps the limits has few turns
  module _ (pair : ℕ × ℕ) (left right : Entrant) (left_inside : pair.0 < length lab.entries) (right_inside : pair.1 < length lab.entries)
      (left_is : IsEntrant lab pair.0 left) (right_is : IsEntrant lab pair.1 right) where
    sure_pair : pair_is_sure (notes_of players) lab.entries pair ≡ true → IsSurePair players left right
    sure_pair e =
        let l = entry_is_sure (notes_of players) (entry_at lab.entries pair.0) in
        let r = entry_is_sure (notes_of players) (entry_at lab.entries pair.1) in
        let a = one_sure pair.0 left left_inside left_is (first l r e) in
        let b = one_sure pair.1 right right_inside right_is (second l r e) in
        record { left = a.1; left_still = a.0; right = b.1; right_still = b.0 }

    few_by : (turns : ℕ) (sure : Bool) → pair_is_sure (notes_of players) lab.entries pair ≡ sure → (IsSurePair players left right → ⊥)
        → pair_limits (notes_of players) lab.entries turns pair ≡ Ok tt → turns ≤ 10000
    few_by turns true e not_sure keeps = absurd (not_sure (sure_pair e))
    few_by turns false e not_sure keeps =
        few_turns_by (pair_is_sure (notes_of players) lab.entries pair) (entry_rows (notes_of players) (entry_at lab.entries pair.0)) (entry_rows (notes_of players) (entry_at lab.entries pair.1)) turns e keeps

    pub is_short : (turns : ℕ) → turns ≤ 10 ^ 12 → pair_limits (notes_of players) lab.entries turns pair ≡ Ok tt
        → IsShort (strategy_of_entrant players left) (strategy_of_entrant players right) turns
    is_short turns few keeps = record {
      sure = λ s. few;
      unsure = λ not_sure. few_by turns (pair_is_sure (notes_of players) lab.entries pair) refl not_sure keeps;
    }
