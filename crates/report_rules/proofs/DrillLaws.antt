-- The lines of a drill, both ways, and the report that is made of one.
use Rattle.std.proofs.Common.{◌≡◌, ℕ, ◌+◌, ◌^◌, ◌<◌, ◌≤◌, true, ltb, ℤ, pos, List, [], ◌∷◌, ◌++◌, length, Some, refl, sym, ap, subst, ◌∙◌, append_assoc, length-append, arith}
use Rattle.std.specs.Prelude.{int_le}
use Rattle.std.specs.List.{All}
use Rattle.std.proofs.lemmas.Bool.Decides.{nat_tests}
use Rattle.std.proofs.lemmas.List.{append-nil, map-append}
use Rattle.std.proofs.lemmas.List.Elements.{All-nil, All-push}
use Rattle.history_model.specs.Name.{is_name, IsName}
use Rattle.history_model.specs.Noise.{IsFlipRate}
use Rattle.texts.specs.Grammar.{run}
use Rattle.report_lines.specs.declared.line.ShownFirst.{ShownFirst}
use Rattle.report_lines.specs.declared.line.Line.{Line}
use Rattle.report_lines.specs.declared.line.Line.TheVariants as lines
use Rattle.report_lines.specs.Texts.{are_points, is_first, is_line, is_number}
use Rattle.report_rules.specs.declared.report.Body.TheVariants as bodies
use Rattle.report_rules.specs.declared.report.Head.{Head}
use Rattle.report_rules.specs.declared.state.DrillSoFar.{DrillSoFar}
use Rattle.report_rules.specs.declared.state.DrillSoFar.TheVariants as drills
use Rattle.report_rules.specs.declared.state.State.{State}
use Rattle.report_rules.specs.declared.state.State.TheVariants as states
use Rattle.report_rules.specs.DrillRules.{drill_allows, with_first}
use Rattle.report_rules.specs.Grammar.{grammar}
use Rattle.report_names.specs.Names.{name_at, with_name, with_names, place_in}
use Rattle.report_rules.specs.Text.{shown_first, first_lines, drill_lines}
use Rattle.report_rules.specs.Valid.{IsDrill, IsFirstOf, IsTotal, drill_head, first_names}
use Rattle.report_names.proofs.Growth.{Grows, all_differ, all_head, all_tail, grows_one, names_then, place_kept}
use Rattle.report_rules.proofs.MatchRuns.{place_back}
use Rattle.report_names.proofs.PlaceLaws.{Differ, none_differ, place_below, stands_there, with_all}
use Rattle.report_rules.proofs.Ranges.{both_back, both_true, int_le_back, int_le_is}
use Rattle.report_rules.proofs.States.{IsSound, IsSoundBody, IsSoundHead, IsSoundFirst, Adds, no_case, one_line}

-- ---- totals and machines, from their tests and back

ltb_is : (a b : ℕ) → ltb a b ≡ true → a < b
ltb_is a b h = grind (arith, nat_tests)

ltb_back : (a b : ℕ) → a < b → ltb a b ≡ true
ltb_back a b h = grind (arith, nat_tests)

total_is : (units : ℤ) → are_points units ≡ true → IsTotal units
total_is units h =
    let a = both_true (int_le (pos 0) units) (int_le units (pos (10 ^ 37))) h in
    record { low = int_le_is (pos 0) units a.0; high = int_le_is units (pos (10 ^ 37)) a.1 }

pub total_back : (units : ℤ) → IsTotal units → are_points units ≡ true
total_back units h = rw (int_le_back (pos 0) units h.low, int_le_back units (pos (10 ^ 37)) h.high) refl

pub number_back : (number : ℕ) → number < 2 ^ 64 → is_number number ≡ true
number_back number h = ltb_back number (2 ^ 64) h

pub first_back : (names : List (List ℕ)) (line : ℕ × ℤ) → All IsName names → IsFirstOf (length names) line → is_first (shown_first names line) ≡ true
first_back names line are_names v = both_back (is_name (name_at names line.0)) (are_points line.1) (are_names line.0 [] v.inside) (total_back line.1 v.total)

-- ---- names that grow

firsts_stay : (names more : List (List ℕ)) → Grows names more → (first : List (ℕ × ℤ)) → All (IsFirstOf (length names)) first → first_lines more first ≡ first_lines names first
firsts_stay names more g [] all = refl
firsts_stay names more g (line ∷ first) all =
    rw (g.stays line.0 (all_head (IsFirstOf (length names)) line first all).inside, firsts_stay names more g first (all_tail (IsFirstOf (length names)) line first all)) refl

first_names_stay : (names more : List (List ℕ)) → Grows names more → (first : List (ℕ × ℤ)) → All (IsFirstOf (length names)) first → first_names more first ≡ first_names names first
first_names_stay names more g [] all = refl
first_names_stay names more g (line ∷ first) all =
    rw (g.stays line.0 (all_head (IsFirstOf (length names)) line first all).inside, first_names_stay names more g first (all_tail (IsFirstOf (length names)) line first all)) refl

own_name : (names : List (List ℕ)) (name : List ℕ) → name_at (with_name names name) (place_in names name) ≡ name
own_name names name =
    ap (name_at (with_name names name)) (sym (place_kept names name)) ∙ stands_there (with_name names name) name (place_below names name)

place_inside : (names : List (List ℕ)) (name : List ℕ) → place_in names name < length (with_name names name)
place_inside names name = omega (arith, place_kept names name, place_below names name)

-- ---- one more machine

more_firsts : (few many : ℕ) (first : List (ℕ × ℤ)) → few ≤ many → All (IsFirstOf few) first → All (IsFirstOf many) first
more_firsts few many first le all k d h =
    let v = all k d h in
    record { inside = omega (arith, le, v.inside); total = v.total }

sound_with_first : (names : List (List ℕ)) (first : List (ℕ × ℤ)) (x : ShownFirst) → IsSoundFirst names first → is_first x ≡ true → ltb (length first) 64 ≡ true
    → IsSoundFirst (with_name names x.name) (with_first names first x)
sound_with_first names first x s h e =
    let more : List (List ℕ) = with_name names x.name in
    let grows : Grows names more = grows_one names x.name in
    let line : ℕ × ℤ = (place_in names x.name, x.total) in
    let parts = both_true (is_name x.name) (are_points x.total) h in
    let few : length first < 64 = ltb_is (length first) 64 e in
    let all : first_names more (first ++ line ∷ []) ≡ first_names names first ++ x.name ∷ [] =
    map-append (λ (l : ℕ × ℤ). name_at more l.0) first (line ∷ [])
    ∙ ap (λ (ns : List (List ℕ)). ns ++ name_at more line.0 ∷ []) (first_names_stay names more grows first s.machines)
    ∙ ap (λ (name : List ℕ). first_names names first ++ name ∷ []) (own_name names x.name) in
    record {
      are_names = with_all IsName names x.name s.are_names parts.0;
      shown = sym (ap (with_names []) all ∙ names_then [] (first_names names first) (x.name ∷ []) ∙ ap (λ (ns : List (List ℕ)). with_name ns x.name) (sym s.shown));
      few = omega (arith, few, length-append first (line ∷ []));
      machines = All-push (IsFirstOf (length more)) first line (more_firsts (length names) (length more) first grows.longer s.machines) (record { inside = place_inside names x.name; total = total_is x.total parts.1 });
    }

lines_with_first : (names : List (List ℕ)) (first : List (ℕ × ℤ)) (x : ShownFirst) → IsSoundFirst names first
    → first_lines (with_name names x.name) (with_first names first x) ≡ first_lines names first ++ lines.First x ∷ []
lines_with_first names first x s =
    let more : List (List ℕ) = with_name names x.name in
    let line : ℕ × ℤ = (place_in names x.name, x.total) in
    map-append (λ (l : ℕ × ℤ). lines.First (shown_first more l)) first (line ∷ [])
    ∙ ap (λ (is : List Line). is ++ lines.First (shown_first more line) ∷ []) (firsts_stay names more (grows_one names x.name) first s.machines)
    ∙ ap (λ (name : List ℕ). first_lines names first ++ lines.First (record { name = name; total = x.total }) ∷ []) (own_name names x.name)

whole_drill : (names : List (List ℕ)) (number : ℕ) (first : List (ℕ × ℤ)) (sum : ℤ) → number < 2 ^ 64 → IsSoundFirst names first → IsTotal sum → IsSoundBody drill_head names (bodies.Drill number first sum)
whole_drill names number first sum fits s total =
    record { are_names = s.are_names; shown = s.shown; holds = record { number_fits = fits; few = s.few; machines = s.machines; sum_is = total } }

no_firsts : IsSoundFirst [] []
no_firsts = record { are_names = All-nil IsName; shown = refl; few = omega arith; machines = All-nil (IsFirstOf 0) }

still : IsSoundHead drill_head
still = record {
  told = record { some = omega arith; known = omega arith; first = λ e. refl; raised = record { few = omega arith; least = λ some. absurd (omega (arith, some)) } };
  game = record { reward = omega arith; sucker = omega arith; temptation = omega arith; punishment = omega arith };
  noise = record { some = omega arith; few = omega arith; half = omega arith };
}

pub drill_adds : (names : List (List ℕ)) (drill : DrillSoFar) (i : Line) → IsSound (states.InDrill names drill) → is_line i ≡ true → drill_allows drill i ≡ true → Adds (states.InDrill names drill) i
drill_adds names drills.Begun (lines.Drill number) s h e = rw s ((ltb_is number (2 ^ 64) h, no_firsts), refl)
drill_adds names (drills.Numbered number first) (lines.First x) s h e =
    ((s.0, sound_with_first names first x s.1 h e), rw (lines_with_first names first x s.1) refl)
drill_adds names (drills.Numbered number first) (lines.Total sum) s h e = ((s.0, s.1, total_is sum h), refl)
drill_adds names (drills.Summed number first sum) lines.End s h e =
    ((still, record { are_noises = All-nil IsFlipRate; count = refl }, whole_drill names number first sum s.0 s.1 s.2, refl), refl)
drill_adds names drills.Begun _ s h e = no_case e
drill_adds names (drills.Numbered number first) _ s h e = no_case e
drill_adds names (drills.Summed number first sum) _ s h e = no_case e

-- ---- the lines of a valid drill are allowed

abbrev at : List (List ℕ) → ℕ → List (ℕ × ℤ) → State
at names number first = states.InDrill names (drills.Numbered number first)

firsts_run : (names : List (List ℕ)) → All IsName names → Differ names → (number : ℕ) (todo : List (ℕ × ℤ)) (ns : List (List ℕ)) (done : List (ℕ × ℤ)) (rest : List Line)
    → names ≡ with_names ns (first_names names todo) → All (IsFirstOf (length names)) todo → length done + length todo ≤ 64
    → run grammar (at ns number done) (first_lines names todo ++ rest) ≡ run grammar (at (with_names ns (first_names names todo)) number (done ++ todo)) rest
firsts_run names are_names differ number [] ns done rest e all few = ap (λ (d : List (ℕ × ℤ)). run grammar (at ns number d) rest) (sym (append-nil done))
firsts_run names are_names differ number (l ∷ ls) ns done rest e all few =
    let x : ShownFirst = shown_first names l in
    let v : IsFirstOf (length names) l = all_head (IsFirstOf (length names)) l ls all in
    let tail : List Line = first_lines names ls ++ rest in
    let next : List (List ℕ) = with_name ns x.name in
    let place : place_in ns x.name ≡ l.0 = sym (place_kept ns x.name) ∙ place_back ns (first_names names ls) names x.name l.0 e differ v.inside refl in
    let room : length (done ++ l ∷ []) + length ls ≤ 64 = omega (arith, few, length-append done (l ∷ [])) in
    one_line (at ns number done) (lines.First x) tail (first_back names l are_names v) (ltb_back (length done) 64 (omega (arith, few)))
    ∙ ap (λ (k : ℕ). run grammar (at next number (done ++ (k, l.1) ∷ [])) tail) place
    ∙ firsts_run names are_names differ number ls next (done ++ l ∷ []) rest e (all_tail (IsFirstOf (length names)) l ls all) room
    ∙ ap (λ (d : List (ℕ × ℤ)). run grammar (at (with_names next (first_names names ls)) number d) rest) (append_assoc done (l ∷ []) ls)

pub drill_runs : (head : Head) (names : List (List ℕ)) (number : ℕ) (first : List (ℕ × ℤ)) (sum : ℤ) → IsSoundBody head names (bodies.Drill number first sum)
    → run grammar (states.InDrill [] drills.Begun) (drill_lines names number first sum ++ lines.End ∷ []) ≡ Some (states.Ended drill_head [] names (bodies.Drill number first sum))
drill_runs head names number first sum v =
    let d : IsDrill (length names) number first sum = v.holds in
    let differ : Differ names = subst Differ (sym v.shown) (all_differ [] (first_names names first) none_differ) in
    let end : List Line = lines.End ∷ [] in
    let last : List Line = lines.Total sum ∷ end in
    one_line (states.InDrill [] drills.Begun) (lines.Drill number) ((first_lines names first ++ lines.Total sum ∷ []) ++ end) (number_back number d.number_fits) refl
    ∙ ap (run grammar (at [] number [])) (append_assoc (first_lines names first) (lines.Total sum ∷ []) end)
    ∙ firsts_run names v.are_names differ number first [] [] last v.shown d.machines (omega (arith, d.few))
    ∙ ap (λ (ns : List (List ℕ)). run grammar (at ns number first) last) (sym v.shown)
    ∙ one_line (at names number first) (lines.Total sum) end (total_back sum d.sum_is) refl
