-- A line that is allowed leaves room for one more.
use Rattle.std.proofs.Common.{◌≡◌, ℕ, ◌<◌, true, not, eqb, ltb, ◌&&◌, List, [], ◌∷◌, ◌≤◌, length, Option, Some, None, Result, Ok, Err, IfOk, refl, sym, ap, subst, ◌∙◌, arith, length-append}
use Rattle.std.proofs.lemmas.Bool.Decides.{nat_tests}
use Rattle.std.proofs.lemmas.List.Elements.{All-nil, All-push}
use Rattle.fixed_span.specs.Span.{Ends}
use Rattle.result_lines.specs.declared.line.MatchLine.{MatchLine}
use Rattle.result_lines.specs.Totals.{AreSummable, IsSummable}
use Rattle.report_lines.specs.declared.line.Kind.{Kind}
use Rattle.report_lines.specs.declared.line.Kind.TheVariants as kinds
use Rattle.report_lines.specs.declared.line.ShownMatch.{ShownMatch}
use Rattle.report_lines.specs.declared.line.ShownEntry.{ShownEntry}
use Rattle.report_lines.specs.declared.line.Line.{Line}
use Rattle.report_lines.specs.declared.line.Line.TheVariants as lines
use Rattle.report_lines.specs.Texts.{is_match, is_line}
use Rattle.report_lines.proofs.Raising.{offset_is}
use Rattle.report_names.specs.declared.own.OwnNoises.{OwnNoises}
use Rattle.report_rules.specs.declared.report.Head.{Head}
use Rattle.report_rules.specs.declared.state.BodySoFar.{BodySoFar}
use Rattle.report_rules.specs.declared.state.BodySoFar.TheVariants as parts
use Rattle.report_rules.specs.declared.state.State.{State}
use Rattle.report_rules.specs.declared.state.State.TheVariants as states
use Rattle.report_rules.specs.declared.table.Table.{Table}
use Rattle.report_rules.specs.declared.state.DrillSoFar.{DrillSoFar}
use Rattle.report_rules.specs.declared.state.DrillSoFar.TheVariants as drills
use Rattle.report_rules.specs.DrillRules.{HasDrillRoom, drill_allows, after_drill}
use Rattle.report_rules.specs.Grammar.{HasRoom, StateHasRoom, after_head, body_allows, after_body, after_inner, allows, after, follows, inner_allows, own_of}
use Rattle.report_rules.specs.MatchRules.{is_scored, placed_match, names_with_match, match_allows, after_match}
use Rattle.report_names.specs.Names.{with_name, place_in}
use Rattle.report_rules.specs.Room.{HasTableRoom}
use Rattle.report_rules.specs.TableRules.{unnamed, adds_up, match_fits, entry_fits, with_match, with_entry, table_allows, after_table}
use Rattle.report_names.specs.Places.{is_listed}
use Rattle.report_rules.specs.Valid.{IsScore}
use Rattle.report_names.proofs.Growth.{one_longer}
use Rattle.report_rules.proofs.Ranges.{both_true, match_parts}
use Rattle.report_rules.proofs.States.{no_case}

ltb_is : (a b : ℕ) → ltb a b ≡ true → a < b
ltb_is a b h = grind (arith, nat_tests)

summable : (score : Ends) → IsScore 2 score → IsSummable score
summable score h = record { low = h.low; ordered = h.ordered; high = h.high }

match_room : (head : Head) (names : List (List ℕ)) (table : Table) (m : ShownMatch) → HasTableRoom names table → is_match m ≡ true → match_fits head table m ≡ true → HasTableRoom (names_with_match names m) (with_match names table m)
match_room head names table m room h e =
    let p = match_parts m h in
    let a = both_true (eqb (length table.entries) 0 && ltb (length table.matches) 2080) (is_scored head m) e in
    let few : length table.matches < 2080 = ltb_is (length table.matches) 2080 (both_true (eqb (length table.entries) 0) (ltb (length table.matches) 2080) a.0).1 in
    let line : MatchLine = placed_match names m in
    let longer = length-append table.matches (line ∷ []) in
    record {
      few_matches = omega (arith, few, longer);
      few_entries = room.few_entries;
      few_names = omega (arith, room.few_names, longer, one_longer names m.left, one_longer (with_name names m.left) m.right);
      scores = All-push AreSummable table.matches line room.scores (record { left = summable m.left_score p.left_score; right = summable m.right_score p.right_score });
    }

entry_room : (names : List (List ℕ)) (table : Table) (x : ShownEntry) → HasTableRoom names table → entry_fits names table x ≡ true → HasTableRoom (with_name names x.name) (with_entry names table x)
entry_room names table x room e =
    let place : ℕ = place_in names x.name in
    let a = both_true (ltb (length table.entries) 64 && not (is_listed table.who place)) (adds_up table.matches place x) e in
    let few : length table.entries < 64 = ltb_is (length table.entries) 64 (both_true (ltb (length table.entries) 64) (not (is_listed table.who place)) a.0).0 in
    let longer = length-append table.entries (unnamed x ∷ []) in
    record {
      few_matches = room.few_matches;
      few_entries = omega (arith, few, longer);
      few_names = omega (arith, room.few_names, longer, one_longer names x.name);
      scores = room.scores;
    }

abbrev IsSmall : Head → Type 0
IsSmall head = head.offset ≤ 1000000

match_kept : (head : Head) (own : OwnNoises) (names : List (List ℕ)) (line : Option MatchLine) (i : Line) → IsSmall head → match_allows head line i ≡ true → StateHasRoom (after_match head own names line i)
match_kept head own names None (lines.Match m) small e = (small, tt)
match_kept head own names (Some line) lines.End small e = tt
match_kept head own names None _ small e = no_case e
match_kept head own names (Some line) _ small e = no_case e

table_kept : (head : Head) (own : OwnNoises) (names : List (List ℕ)) (table : Table) (i : Line) → IsSmall head → HasTableRoom names table → is_line i ≡ true → table_allows head names table i ≡ true → StateHasRoom (after_table head own names table i)
table_kept head own names table (lines.Match m) small room h e = (small, match_room head names table m room h e)
table_kept head own names table (lines.Entry x) small room h e = (small, entry_room names table x room e)
table_kept head own names table lines.End small room h e = tt
table_kept head own names table _ small room h e = no_case e

body_kept : (head : Head) (own : OwnNoises) (names : List (List ℕ)) (body : BodySoFar) (i : Line) → IsSmall head → HasRoom body names → is_line i ≡ true → body_allows head names body i ≡ true → StateHasRoom (after_body head own names body i)
body_kept head own names (parts.Match line) i small room h e = match_kept head own names line i small e
body_kept head own names (parts.Tournament table) i small room h e = table_kept head own names table i small room h e

inner_kept : (head : Head) (own : OwnNoises) (names : List (List ℕ)) (body : BodySoFar) (i : Line) → StateHasRoom (states.InBody head own names body) → is_line i ≡ true → inner_allows head own names body i (own_of i) ≡ true
    → StateHasRoom (after_inner head own names body i (own_of i))
inner_kept head own names body (lines.Own x) room h e = room
inner_kept head own names body i room h e = body_kept head own names body i room.0 room.1 h (both_true (body_allows head names body i) (follows head.version own.names names i) e).0

drill_kept : (names : List (List ℕ)) (drill : DrillSoFar) (i : Line) → HasDrillRoom names drill → drill_allows drill i ≡ true → StateHasRoom (after_drill names drill i)
drill_kept names drills.Begun (lines.Drill number) room e = rw room (omega arith, omega arith)
drill_kept names (drills.Numbered number first) (lines.First x) room e =
    let few : length first < 64 = ltb_is (length first) 64 e in
    let longer = length-append first ((place_in names x.name, x.total) ∷ []) in
    (omega (arith, room.0, longer, one_longer names x.name), omega (arith, few, longer))
drill_kept names (drills.Numbered number first) (lines.Total sum) room e = tt
drill_kept names (drills.Summed number first sum) lines.End room e = tt
drill_kept names drills.Begun _ room e = no_case e
drill_kept names (drills.Numbered number first) _ room e = no_case e
drill_kept names (drills.Summed number first sum) _ room e = no_case e

first_room : (version : ℕ) (kind : Kind) → StateHasRoom (after_head version kind)
first_room version kinds.Match = refl
first_room version kinds.Drill = refl
first_room version kinds.Tournament = record { few_matches = omega arith; few_entries = omega arith; few_names = omega arith; scores = All-nil AreSummable }

pub room_kept : (s : State) (i : Line) → StateHasRoom s → is_line i ≡ true → allows s i ≡ true → StateHasRoom (after s i)
room_kept states.Start (lines.Head x) room h e = first_room x.version x.kind
room_kept (states.AfterHead version body) (lines.Game x) room h e = ((offset_is x h).few, room)
room_kept (states.AfterGame version offset game body) (lines.Noise noise) room h e = room
room_kept (states.InBody head own names body) i room h e = inner_kept head own names body i room h e
room_kept (states.InDrill names drill) i room h e = drill_kept names drill i room e
room_kept states.Start _ room h e = no_case e
room_kept (states.AfterHead version body) _ room h e = no_case e
room_kept (states.AfterGame version offset game body) _ room h e = no_case e
room_kept (states.Ended head noises names body) _ room h e = no_case e

-- the same of a body, where memory may run out
pub inner_room : {E : Type 0} (made : Result State E) (state : State) (head : Head) (own : OwnNoises) (names : List (List ℕ)) (body : BodySoFar) (i : Line) → state ≡ states.InBody head own names body
    → StateHasRoom state → is_line i ≡ true → allows state i ≡ true → IfOk made (λ new. new ≡ after_inner head own names body i (own_of i)) → IfOk made StateHasRoom
inner_room (Ok new) state head own names body i is room h e made = rw made (inner_kept head own names body i (subst StateHasRoom is room) h (ap (λ (s : State). allows s i) (sym is) ∙ e))
inner_room (Err error) state head own names body i is room h e made = tt

-- the same of a drill
pub drill_room : {E : Type 0} (made : Result State E) (state : State) (names : List (List ℕ)) (drill : DrillSoFar) (i : Line) → state ≡ states.InDrill names drill → StateHasRoom state → allows state i ≡ true
    → IfOk made (λ new. new ≡ after_drill names drill i) → IfOk made StateHasRoom
drill_room (Ok new) state names drill i is room e made = rw made (drill_kept names drill i (subst StateHasRoom is room) (ap (λ (s : State). allows s i) (sym is) ∙ e))
drill_room (Err error) state names drill i is room e made = tt
