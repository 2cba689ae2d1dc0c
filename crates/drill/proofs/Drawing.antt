-- Draws by their places, and the machines that are drawn.
use Rattle.std.proofs.Common.{◌≡◌, ℕ, zero, suc, ◌+◌, ◌*◌, ◌^◌, ◌<◌, ◌≤◌, Bool, true, false, if◌then◌else◌, List, [], ◌∷◌, ◌++◌, map, length, get_or, refl, sym, ap, subst, ◌∙◌, arith}
use Rattle.std.proofs.lemmas.List.FromFn.{length-map-range_with_len, get_or-map-range_with_len, map-range_with_len_more}
use Rattle.std.specs.List.{range_with_len, All}
use Rattle.player_core.specs.declared.kind.Kind.TheVariants.{Machine}
use Rattle.player_core.specs.Sheet.{SheetData, IsMachine, IsSheet}
use Rattle.drill.specs.Drill.{step, draw, move_drawn, state_drawn, nexts_drawn, plays_drawn, machine_with, drill_sheet, drill_sheets}

-- the last draw before a place; before the first place it is the number
unfoldable pub before : ℕ → ℕ → ℕ
before number zero = number
before number (suc place) = draw number place

pub before-first : (number : ℕ) → before number 0 ≡ number
unfolding before
before-first number = refl

pub draw-first : (number : ℕ) → step number ≡ draw number 0
unfolding draw
draw-first number = refl

pub draw-after : (number place : ℕ) → step (draw number place) ≡ draw number (place + 1)
unfolding draw
draw-after number place = let e : place + 1 ≡ suc place = omega arith in rw e

-- draws from a later place on are later draws
draw_at : (number place : ℕ) → step (before number place) ≡ draw number place
unfolding draw before
draw_at number zero = refl
draw_at number (suc place) = refl

pub draw_from : (number place more : ℕ) → draw (before number place) more ≡ draw number (place + more)
unfolding draw
draw_from number place zero = let e : place + 0 ≡ place = omega arith in rw e (draw_at number place)
draw_from number place (suc more) = let e : place + suc more ≡ suc (place + more) = omega arith in rw e (ap step (draw_from number place more))

pub before_from : (number place : ℕ) → draw (before number place) 64 ≡ before number (place + 65)
unfolding before
before_from number place = let e : place + 65 ≡ suc (place + 64) = omega arith in rw e (draw_from number place 64)

-- one entry more
pub nexts_more : (number opening entries : ℕ)
    → nexts_drawn number opening (entries + 1) ≡ nexts_drawn number opening entries ++ state_drawn (draw number (opening + 2 * entries + 1)) ∷ []
unfolding nexts_drawn
nexts_more number opening entries =
    map-range_with_len_more (λ entry. state_drawn (draw number (opening + 2 * entry + 1))) 0 entries entries (omega arith)

pub plays_more : (number opening entries : ℕ)
    → plays_drawn number opening (entries + 1) ≡ plays_drawn number opening entries ++ move_drawn (draw number (opening + 2 * entries + 2)) ∷ []
unfolding plays_drawn
plays_more number opening entries =
    map-range_with_len_more (λ entry. move_drawn (draw number (opening + 2 * entry + 2))) 0 entries entries (omega arith)

map_same : {X : Type 0} (f g : ℕ → X) (xs : List ℕ) → ((x : ℕ) → f x ≡ g x) → map f xs ≡ map g xs
map_same f g [] same = refl
map_same f g (x ∷ xs) same = rw (same x) (ap (λ more. g x ∷ more) (map_same f g xs same))

nexts_from : (number place entries : ℕ) → nexts_drawn (before number place) 0 entries ≡ nexts_drawn number place entries
unfolding nexts_drawn
nexts_from number place entries =
    map_same
    (λ entry. state_drawn (draw (before number place) (0 + 2 * entry + 1)))
    (λ entry. state_drawn (draw number (place + 2 * entry + 1)))
    (range_with_len 0 entries)
    (λ entry.
    let at : place + (0 + 2 * entry + 1) ≡ place + 2 * entry + 1 = omega arith in
    ap state_drawn (draw_from number place (0 + 2 * entry + 1) ∙ ap (draw number) at))

plays_from : (number place entries : ℕ) → plays_drawn (before number place) 0 entries ≡ plays_drawn number place entries
unfolding plays_drawn
plays_from number place entries =
    map_same
    (λ entry. move_drawn (draw (before number place) (0 + 2 * entry + 2)))
    (λ entry. move_drawn (draw number (place + 2 * entry + 2)))
    (range_with_len 0 entries)
    (λ entry.
    let at : place + (0 + 2 * entry + 2) ≡ place + 2 * entry + 2 = omega arith in
    ap move_drawn (draw_from number place (0 + 2 * entry + 2) ∙ ap (draw number) at))

-- the first machine that is drawn from a later place on is a later machine
pub sheet_from : (number machine : ℕ) → drill_sheet (before number (65 * machine)) 0 ≡ drill_sheet number machine
unfolding drill_sheet
sheet_from number machine =
    let place : ℕ = 65 * machine in
    let at : place + 0 ≡ place = omega arith in
    let opening : draw (before number place) 0 ≡ draw number place = draw_from number place 0 ∙ ap (draw number) at in
    rw (opening, nexts_from number place 32, plays_from number place 32) refl

-- what is drawn is within its bounds
draw_within : (number place : ℕ) → draw number place < 2 ^ 64
unfolding draw
draw_within number zero = omega arith
draw_within number (suc place) = omega arith

state_within : (drawn : ℕ) → drawn < 2 ^ 64 → state_drawn drawn < 16
state_within drawn h = omega arith

one_at_most : (b : Bool) → (if b then 1 else 0) ≤ 1
one_at_most true = omega arith
one_at_most false = omega arith

length-nexts : (number opening entries : ℕ) → length (nexts_drawn number opening entries) ≡ entries
unfolding nexts_drawn
length-nexts number opening entries = length-map-range_with_len (λ entry. state_drawn (draw number (opening + 2 * entry + 1))) 0 entries

length-plays : (number opening entries : ℕ) → length (plays_drawn number opening entries) ≡ entries
unfolding plays_drawn
length-plays number opening entries = length-map-range_with_len (λ entry. move_drawn (draw number (opening + 2 * entry + 2))) 0 entries

nexts_within : (number opening entries place : ℕ) → place < entries → get_or (nexts_drawn number opening entries) place 0 < 16
unfolding nexts_drawn
nexts_within number opening entries place inside =
    rw (get_or-map-range_with_len (λ entry. state_drawn (draw number (opening + 2 * entry + 1))) 0 entries place place 0 inside (omega arith))
    (state_within _ (draw_within number _))

plays_within : (number opening entries place : ℕ) → place < entries → get_or (plays_drawn number opening entries) place 0 ≤ 1
unfolding plays_drawn
plays_within number opening entries place inside =
    rw (get_or-map-range_with_len (λ entry. move_drawn (draw number (opening + 2 * entry + 2))) 0 entries place place 0 inside (omega arith))
    (one_at_most _)

opening_within : (opening place : ℕ) → opening ≤ 1 → place < 1 → get_or (opening ∷ []) place 0 ≤ 1
opening_within opening zero low inside = low
opening_within opening (suc place) low inside = absurd (omega arith)

-- each machine is one
pub is_machine : (number machine : ℕ) → IsMachine (drill_sheet number machine)
unfolding drill_sheet
is_machine number machine =
    let opening : ℕ = 65 * machine in
    let table : length (plays_drawn number opening 32) ≡ 32 = length-plays number opening 32 in
    let next : length (nexts_drawn number opening 32) ≡ 32 = length-nexts number opening 32 in
    record {
      weighted = record {
        some = omega arith;
        few = omega arith;
        opening_within = λ place inside. opening_within _ place (one_at_most _) inside;
        table_within = λ place inside. plays_within number opening 32 place (omega arith);
      };
      unit = refl;
      one_opening = refl;
      some_states = rw next (omega arith);
      few_states = rw next (omega arith);
      table_whole = rw (table, next) refl;
      next_whole = rw next refl;
      closed = λ place inside. rw next (nexts_within number opening 32 place (omega arith));
      plain = record { own_none = refl; other_none = refl; first_none = refl; unnamed = refl };
    }

pub kind_is : (number machine : ℕ) → (drill_sheet number machine).kind ≡ Machine
unfolding drill_sheet
kind_is number machine = refl

is_sheet : (number machine : ℕ) → IsSheet (drill_sheet number machine)
is_sheet number machine =
    let kind = kind_is number machine in
    record {
      memory_one = λ other. absurd cc;
      machine = λ _. is_machine number machine;
      lookup = λ other. absurd cc;
      plug = λ other. absurd cc;
    }

-- what holds of each machine holds of all in a drill
all_drawn : (P : SheetData → Type 0) (number machines : ℕ) → ((machine : ℕ) → P (drill_sheet number machine))
    → All P (map (drill_sheet number) (range_with_len 0 machines))
all_drawn P number machines each place other inside =
    let within : place < machines = omega (arith, length-map-range_with_len (drill_sheet number) 0 machines) in
    subst P (sym (get_or-map-range_with_len (drill_sheet number) 0 machines place place other within (omega arith))) (each place)

pub all_machines : (number : ℕ) → All (λ sheet. sheet.kind ≡ Machine) (drill_sheets number)
unfolding drill_sheets
all_machines number = all_drawn (λ sheet. sheet.kind ≡ Machine) number 64 (kind_is number)

pub all_sheets : (number : ℕ) → All IsSheet (drill_sheets number)
unfolding drill_sheets
all_sheets number = all_drawn IsSheet number 64 (is_sheet number)

pub length-drill : (number : ℕ) → length (drill_sheets number) ≡ 64
unfolding drill_sheets
length-drill number = length-map-range_with_len (drill_sheet number) 0 64

-- the drill so far, and one machine more
pub sheets_more : (number machines : ℕ)
    → map (drill_sheet number) (range_with_len 0 (machines + 1)) ≡ map (drill_sheet number) (range_with_len 0 machines) ++ drill_sheet number machines ∷ []
sheets_more number machines = map-range_with_len_more (drill_sheet number) 0 machines machines (omega arith)

-- an entry is drawn: its next and then its play
state_next : (number entry was between : ℕ) → was ≡ draw number (2 * entry) → between ≡ step was → between ≡ draw number (2 * entry + 1)
state_next number entry was between now once = once ∙ ap step now ∙ draw-after number (2 * entry)

pub state_after : (number entry was between after : ℕ) → was ≡ draw number (2 * entry) → between ≡ step was → after ≡ step between
    → after ≡ draw number (2 * (entry + 1))
state_after number entry was between after now once twice =
    let at : 2 * entry + 1 + 1 ≡ 2 * (entry + 1) = omega arith in
    twice ∙ ap step (state_next number entry was between now once) ∙ draw-after number (2 * entry + 1) ∙ ap (draw number) at

pub next_entered : (number entry was drawn : ℕ) (next more : List ℕ) → was ≡ draw number (2 * entry) → drawn ≡ state_drawn (step was)
    → next ≡ nexts_drawn number 0 entry → more ≡ next ++ drawn ∷ [] → more ≡ nexts_drawn number 0 (entry + 1)
next_entered number entry was drawn next more now is so_far pushed =
    let at : 2 * entry + 1 ≡ 0 + 2 * entry + 1 = omega arith in
    let same : drawn ≡ state_drawn (draw number (0 + 2 * entry + 1)) =
    is ∙ ap state_drawn (state_next number entry was _ now refl ∙ ap (draw number) at) in
    pushed ∙ rw (so_far, same) (sym (nexts_more number 0 entry))

pub play_entered : (number entry was between drawn : ℕ) (table more : List ℕ) → was ≡ draw number (2 * entry) → between ≡ step was
    → drawn ≡ move_drawn (step between) → table ≡ plays_drawn number 0 entry → more ≡ table ++ drawn ∷ []
    → more ≡ plays_drawn number 0 (entry + 1)
play_entered number entry was between drawn table more now once is so_far pushed =
    let at : 2 * (entry + 1) ≡ 0 + 2 * entry + 2 = omega arith in
    let same : drawn ≡ move_drawn (draw number (0 + 2 * entry + 2)) =
    is ∙ ap move_drawn (state_after number entry was between _ now once refl ∙ ap (draw number) at) in
    pushed ∙ rw (so_far, same) (sym (plays_more number 0 entry))

-- all entries are drawn
pub sheet_drawn : (number entries opening : ℕ) (table next : List ℕ) → entries ≡ 32 → opening ≡ move_drawn (step number)
    → table ≡ plays_drawn number 0 entries → next ≡ nexts_drawn number 0 entries
    → drill_sheet number 0 ≡ machine_with opening table next
unfolding drill_sheet
sheet_drawn number entries opening table next all first plays nexts =
    let is : opening ≡ move_drawn (draw number 0) = first ∙ ap move_drawn (draw-first number) in
    rw (is, plays, nexts, all) refl

-- a machine is drawn: the drill has one more
pub state_moved : (number machine was : ℕ) → was ≡ before number (65 * machine) → draw was 64 ≡ before number (65 * (machine + 1))
state_moved number machine was now =
    let at : 65 * machine + 65 ≡ 65 * (machine + 1) = omega arith in
    rw now (before_from number (65 * machine) ∙ ap (before number) at)

pub machine_added : (number machine was : ℕ) (sheet : SheetData) (sheets more : List SheetData) → was ≡ before number (65 * machine)
    → sheet ≡ drill_sheet was 0 → sheets ≡ map (drill_sheet number) (range_with_len 0 machine) → more ≡ sheets ++ sheet ∷ []
    → more ≡ map (drill_sheet number) (range_with_len 0 (machine + 1))
machine_added number machine was sheet sheets more now drawn so_far pushed =
    let is : sheet ≡ drill_sheet number machine = drawn ∙ ap (λ state. drill_sheet state 0) now ∙ sheet_from number machine in
    pushed ∙ rw (is, so_far) (sym (sheets_more number machine))

-- all machines are drawn
pub all_added : (number machines : ℕ) (sheets : List SheetData) → machines ≡ 64
    → sheets ≡ map (drill_sheet number) (range_with_len 0 machines) → sheets ≡ drill_sheets number
unfolding drill_sheets
all_added number machines sheets all so_far = so_far ∙ ap (λ many. map (drill_sheet number) (range_with_len 0 many)) all
