-- A line that fits those of a tournament leaves sound ones.
use Rattle.std.proofs.Common.{◌≡◌, ℕ, ◌<◌, ◌≤◌, true, not, eqb, ltb, leb, ◌&&◌, List, [], ◌∷◌, ◌++◌, length, map, refl, sym, ap, subst, ◌∙◌, append_assoc, length-append, arith}
use Rattle.std.specs.Prelude.{◌≢◌}
use Rattle.std.specs.List.{All, AllZip}
use Rattle.std.proofs.lemmas.Slice.Zip.{AllZip-long}
use Rattle.std.proofs.lemmas.Bool.{eqb-true}
use Rattle.std.proofs.lemmas.Bool.Decides.{nat_tests}
use Rattle.std.proofs.lemmas.List.{append-nil, nil_from_length, map-append}
use Rattle.std.proofs.lemmas.List.Elements.{All-nil, All-push}
use Rattle.std.proofs.lemmas.List.Quantifiers.{all_pairs_push}
use Rattle.history_model.specs.Name.{IsName}
use Rattle.result_lines.specs.declared.line.MatchLine.{MatchLine}
use Rattle.result_lines.specs.declared.tables.EntryLine.{EntryLine}
use Rattle.report_lines.specs.declared.line.ShownMatch.{ShownMatch}
use Rattle.report_lines.specs.declared.line.ShownEntry.{ShownEntry}
use Rattle.report_lines.specs.declared.line.Line.{Line}
use Rattle.report_lines.specs.declared.line.Line.TheVariants as lines
use Rattle.report_lines.specs.Texts.{is_match, is_entry, is_line}
use Rattle.report_names.specs.declared.own.OwnNoises.{OwnNoises}
use Rattle.report_rules.specs.declared.report.Body.TheVariants as bodies
use Rattle.report_rules.specs.declared.report.Head.{Head}
use Rattle.report_rules.specs.declared.state.BodySoFar.TheVariants as parts
use Rattle.report_rules.specs.declared.state.State.TheVariants as states
use Rattle.report_rules.specs.declared.table.Table.{Table}
use Rattle.report_rules.specs.Grammar.{follows}
use Rattle.report_rules.specs.MatchRules.{is_scored, placed_match, names_with_match}
use Rattle.report_names.specs.Names.{name_at, with_name, with_names, place_in}
use Rattle.report_rules.specs.TableRules.{unnamed, adds_up, are_ranked, match_fits, entry_fits, is_whole, with_match, with_entry, table_allows}
use Rattle.report_names.specs.Places.{is_listed, are_listed}
use Rattle.report_rules.specs.Text.{shown_match, shown_entry, match_lines, entry_lines}
use Rattle.report_rules.specs.Valid.{IsMatchOf, IsCountedIn, match_names}
use Rattle.report_names.proofs.Growth.{Grows, grows_one, grows_on, names_then, place_kept}
use Rattle.report_rules.proofs.Staying.{matches_stay, match_names_stay, match_names_then, who_stay, entries_stay}
use Rattle.report_rules.proofs.MatchRuns.{left_name, right_name, now_shown, placed_is}
use Rattle.report_names.proofs.PlaceLaws.{place_below, stands_there, with_all}
use Rattle.report_rules.proofs.OwnLaws.{all_done, closed, entry_comes, grown, match_comes}
use Rattle.report_rules.proofs.Ranges.{both_true, leb_is, match_parts}
use Rattle.report_rules.proofs.States.{IsSoundBody, IsSoundTable, table_of, IsSound, Adds, PartAdds, no_case}
use Rattle.report_rules.proofs.TableLaws.{all_listed, ranked_is, unlisted_is, counted_is, shown_again, zip_push, zip_none, beside_push}

pub no_table : (head : Head) → IsSoundTable head [] (table_of [] [] [])
no_table head = record {
  are_names = All-nil IsName;
  shown = refl;
  few_matches = omega arith;
  few_entries = omega arith;
  playable = All-nil (IsMatchOf 0 head);
  below = All-nil (λ place. place < 0);
  once = λ i j d h k. absurd (omega (arith, k));
  counted = tt;
}

-- ---- one more match

match_grows : (names : List (List ℕ)) (m : ShownMatch) → Grows names (names_with_match names m)
match_grows names m = grows_on names (with_name names m.left) (names_with_match names m) (grows_one names m.left) (grows_one (with_name names m.left) m.right)

more_entries : (head : Head) (few many : ℕ) (ms : List MatchLine) → few ≤ many → All (IsMatchOf few head) ms → All (IsMatchOf many head) ms
more_entries head few many ms le all k d h =
    let v = all k d h in
    record { left = omega (arith, le, v.left); right = omega (arith, le, v.right); showable = v.showable }

ltb_is : (a b : ℕ) → ltb a b ≡ true → a < b
ltb_is a b h = grind (arith, nat_tests)

record MatchFits (head : Head) (ms : List MatchLine) (m : ShownMatch) : Type 0 where
  few : length ms < 2080
  scored : is_scored head m ≡ true

match_fits_is : (head : Head) (table : Table) (m : ShownMatch) → match_fits head table m ≡ true → (table.entries ≡ []) × MatchFits head table.matches m
match_fits_is head table m h =
    let a = both_true (eqb (length table.entries) 0 && ltb (length table.matches) 2080) (is_scored head m) h in
    let b = both_true (eqb (length table.entries) 0) (ltb (length table.matches) 2080) a.0 in
    (nil_from_length table.entries (eqb-true (length table.entries) 0 b.0), record { few = ltb_is (length table.matches) 2080 b.1; scored = a.1 })

shown_with_match : (head : Head) (names : List (List ℕ)) (ms : List MatchLine) (m : ShownMatch) → IsSoundTable head names (table_of ms [] [])
    → names_with_match names m ≡ with_names [] (match_names (names_with_match names m) (ms ++ placed_match names m ∷ []) ++ [])
shown_with_match head names ms m s =
    let more : List (List ℕ) = names_with_match names m in
    let line : MatchLine = placed_match names m in
    let old : List (List ℕ) = match_names names ms in
    let two : match_names more (line ∷ []) ≡ m.left ∷ m.right ∷ [] = rw (left_name names m, right_name names m) refl in
    let all : match_names more (ms ++ line ∷ []) ++ [] ≡ old ++ m.left ∷ m.right ∷ [] =
    append-nil (match_names more (ms ++ line ∷ [])) ∙ match_names_then more ms (line ∷ [])
    ∙ ap (λ (xs : List (List ℕ)). xs ++ match_names more (line ∷ [])) (match_names_stay names more (match_grows names m) head ms s.playable)
    ∙ ap (λ (xs : List (List ℕ)). old ++ xs) two in
    let before : names ≡ with_names [] old = s.shown ∙ ap (with_names []) (append-nil old) in
    sym (ap (with_names []) all ∙ names_then [] old (m.left ∷ m.right ∷ []) ∙ ap (λ (ns : List (List ℕ)). names_with_match ns m) (sym before))

lines_with_match : (head : Head) (names : List (List ℕ)) (ms : List MatchLine) (m : ShownMatch) → IsSoundTable head names (table_of ms [] [])
    → match_lines (names_with_match names m) (ms ++ placed_match names m ∷ []) ++ [] ≡ (match_lines names ms ++ []) ++ lines.Match m ∷ []
lines_with_match head names ms m s =
    let more : List (List ℕ) = names_with_match names m in
    let line : MatchLine = placed_match names m in
    let one : match_lines more (line ∷ []) ≡ lines.Match m ∷ [] = ap (λ (x : ShownMatch). lines.Match x ∷ []) (now_shown names m) in
    append-nil (match_lines more (ms ++ line ∷ [])) ∙ map-append (λ (l : MatchLine). lines.Match (shown_match more l)) ms (line ∷ [])
    ∙ ap (λ (is : List Line). is ++ match_lines more (line ∷ [])) (matches_stay names more (match_grows names m) head ms s.playable)
    ∙ ap (λ (is : List Line). match_lines names ms ++ is) one
    ∙ ap (λ (is : List Line). is ++ lines.Match m ∷ []) (sym (append-nil (match_lines names ms)))

sound_with_match : (head : Head) (names : List (List ℕ)) (ms : List MatchLine) (m : ShownMatch) → IsSoundTable head names (table_of ms [] []) → is_match m ≡ true → MatchFits head ms m
    → IsSoundTable head (names_with_match names m) (with_match names (table_of ms [] []) m)
sound_with_match head names ms m s h fits =
    let p = match_parts m h in
    let more : List (List ℕ) = names_with_match names m in
    record {
      are_names = with_all IsName (with_name names m.left) m.right (with_all IsName names m.left s.are_names p.left) p.right;
      shown = shown_with_match head names ms m s;
      few_matches = omega (arith, fits.few, length-append ms (placed_match names m ∷ []));
      few_entries = omega arith;
      playable = All-push (IsMatchOf (length more) head) ms (placed_match names m) (more_entries head (length names) (length more) ms (match_grows names m).longer s.playable) (placed_is head names m h fits.scored);
      below = All-nil (λ place. place < length more);
      once = λ i j d lt k. absurd (omega (arith, k));
      counted = tt;
    }

match_added : (head : Head) (names : List (List ℕ)) (ms : List MatchLine) (m : ShownMatch) → IsSoundTable head names (table_of ms [] []) → is_match m ≡ true → MatchFits head ms m
    → PartAdds head names (parts.Tournament (table_of ms [] [])) (lines.Match m) (names_with_match names m) (parts.Tournament (with_match names (table_of ms [] []) m))
match_added head names ms m s h fits = (sound_with_match head names ms m s h fits, lines_with_match head names ms m s)

-- before its first entry a table has no entries
bare : (head : Head) (names : List (List ℕ)) (table : Table) → IsSoundTable head names table → table.entries ≡ [] → table ≡ table_of table.matches [] []
bare head names table s e =
    let none : AllZip (IsCountedIn table.matches) table.who [] = subst (AllZip (IsCountedIn table.matches) table.who) e s.counted in
    ap (table_of table.matches table.who) e ∙ ap (λ (who : List ℕ). table_of table.matches who []) (zip_none (IsCountedIn table.matches) table.who none)

match_adds : (head : Head) (names : List (List ℕ)) (table : Table) (m : ShownMatch) → IsSoundTable head names table → is_match m ≡ true → match_fits head table m ≡ true
    → PartAdds head names (parts.Tournament table) (lines.Match m) (names_with_match names m) (parts.Tournament (with_match names table m))
match_adds head names table m s h e =
    let fits = match_fits_is head table m e in
    let same : table ≡ table_of table.matches [] [] = bare head names table s fits.0 in
    let sound : IsSoundTable head names (table_of table.matches [] []) = subst (IsSoundTable head names) same s in
    subst (λ (t : Table). PartAdds head names (parts.Tournament t) (lines.Match m) (names_with_match names m) (parts.Tournament (with_match names t m))) (sym same) (match_added head names table.matches m sound h fits.1)

-- ---- one more entry

record EntryFits (table : Table) (place : ℕ) (x : ShownEntry) : Type 0 where
  few : length table.entries < 64
  unlisted : not (is_listed table.who place) ≡ true
  counted : adds_up table.matches place x ≡ true

entry_fits_is : (names : List (List ℕ)) (table : Table) (x : ShownEntry) → entry_fits names table x ≡ true → EntryFits table (place_in names x.name) x
entry_fits_is names table x h =
    let place : ℕ = place_in names x.name in
    let a = both_true (ltb (length table.entries) 64 && not (is_listed table.who place)) (adds_up table.matches place x) h in
    let b = both_true (ltb (length table.entries) 64) (not (is_listed table.who place)) a.0 in
    record { few = ltb_is (length table.entries) 64 b.0; unlisted = b.1; counted = a.1 }

entry_is_named : (x : ShownEntry) → is_entry x ≡ true → IsName x.name
entry_is_named x h = (both_true _ _ h).0

place_inside : (names : List (List ℕ)) (name : List ℕ) → place_in names name < length (with_name names name)
place_inside names name = omega (arith, place_kept names name, place_below names name)

own_name : (names : List (List ℕ)) (name : List ℕ) → name_at (with_name names name) (place_in names name) ≡ name
own_name names name = ap (name_at (with_name names name)) (sym (place_kept names name)) ∙ stands_there (with_name names name) name (place_below names name)

sound_with_entry : (head : Head) (names : List (List ℕ)) (table : Table) (x : ShownEntry) → IsSoundTable head names table → is_entry x ≡ true → EntryFits table (place_in names x.name) x
    → IsSoundTable head (with_name names x.name) (with_entry names table x)
sound_with_entry head names table x s h fits =
    let more : List (List ℕ) = with_name names x.name in
    let grows : Grows names more = grows_one names x.name in
    let place : ℕ = place_in names x.name in
    let olds : List (List ℕ) = match_names names table.matches in
    let whos : List (List ℕ) = map (name_at names) table.who in
    let named : map (name_at more) (table.who ++ place ∷ []) ≡ whos ++ x.name ∷ [] =
    map-append (name_at more) table.who (place ∷ [])
    ∙ ap (λ (xs : List (List ℕ)). xs ++ name_at more place ∷ []) (who_stay names more grows table.who s.below)
    ∙ ap (λ (name : List ℕ). whos ++ name ∷ []) (own_name names x.name) in
    let all : match_names more table.matches ++ map (name_at more) (table.who ++ place ∷ []) ≡ (olds ++ whos) ++ x.name ∷ [] =
    ap (λ (xs : List (List ℕ)). xs ++ map (name_at more) (table.who ++ place ∷ [])) (match_names_stay names more grows head table.matches s.playable)
    ∙ ap (λ (xs : List (List ℕ)). olds ++ xs) named ∙ sym (append_assoc olds whos (x.name ∷ [])) in
    let wider : All (λ (p : ℕ). p < length more) table.who = λ k d lt. omega (arith, s.below k d lt, grows.longer) in
    record {
      are_names = with_all IsName names x.name s.are_names (entry_is_named x h);
      shown = sym (ap (with_names []) all ∙ names_then [] (olds ++ whos) (x.name ∷ []) ∙ ap (λ (ns : List (List ℕ)). with_name ns x.name) (sym s.shown));
      few_matches = s.few_matches;
      few_entries = omega (arith, fits.few, length-append table.entries (unnamed x ∷ []));
      playable = more_entries head (length names) (length more) table.matches grows.longer s.playable;
      below = All-push (λ (p : ℕ). p < length more) table.who place wider (place_inside names x.name);
      once = all_pairs_push (λ (a b : ℕ). a ≢ b) table.who place s.once (unlisted_is table.who place fits.unlisted);
      counted = zip_push (IsCountedIn table.matches) table.who table.entries place (unnamed x) s.counted (counted_is table.matches place x fits.counted);
    }

lines_with_entry : (head : Head) (names : List (List ℕ)) (table : Table) (x : ShownEntry) → IsSoundTable head names table
    → match_lines (with_name names x.name) table.matches ++ entry_lines (with_name names x.name) (table.who ++ place_in names x.name ∷ []) (table.entries ++ unnamed x ∷ [])
    ≡ (match_lines names table.matches ++ entry_lines names table.who table.entries) ++ lines.Entry x ∷ []
lines_with_entry head names table x s =
    let more : List (List ℕ) = with_name names x.name in
    let grows : Grows names more = grows_one names x.name in
    let place : ℕ = place_in names x.name in
    let ms : List Line = match_lines names table.matches in
    let es : List Line = entry_lines names table.who table.entries in
    let entries : entry_lines more (table.who ++ place ∷ []) (table.entries ++ unnamed x ∷ []) ≡ es ++ lines.Entry x ∷ [] =
    beside_push (λ (p : ℕ) (e : EntryLine). lines.Entry (shown_entry more p e)) table.who table.entries place (unnamed x) (sym (AllZip-long (IsCountedIn table.matches) table.who table.entries s.counted))
    ∙ ap (λ (y : ShownEntry). entry_lines more table.who table.entries ++ lines.Entry y ∷ []) (shown_again more place x (own_name names x.name))
    ∙ ap (λ (is : List Line). is ++ lines.Entry x ∷ []) (entries_stay names more grows table.who table.entries s.below) in
    ap (λ (is : List Line). is ++ entry_lines more (table.who ++ place ∷ []) (table.entries ++ unnamed x ∷ [])) (matches_stay names more grows head table.matches s.playable)
    ∙ ap (λ (is : List Line). ms ++ is) entries ∙ sym (append_assoc ms es (lines.Entry x ∷ []))

entry_adds : (head : Head) (names : List (List ℕ)) (table : Table) (x : ShownEntry) → IsSoundTable head names table → is_entry x ≡ true → entry_fits names table x ≡ true
    → PartAdds head names (parts.Tournament table) (lines.Entry x) (with_name names x.name) (parts.Tournament (with_entry names table x))
entry_adds head names table x s h e =
    let fits = entry_fits_is names table x e in
    (sound_with_entry head names table x s h fits, lines_with_entry head names table x s)

-- ---- the end

whole_is : (head : Head) (names : List (List ℕ)) (table : Table) → IsSoundTable head names table → is_whole names table ≡ true → IsSoundBody head names (bodies.Tournament table.matches table.who table.entries)
whole_is head names table s h =
    let a = both_true (leb 1 (length table.entries) && are_ranked table.entries) (are_listed (length names) table.who) h in
    let b = both_true (leb 1 (length table.entries)) (are_ranked table.entries) a.0 in
    record {
      are_names = s.are_names;
      shown = s.shown;
      holds = record {
        few_matches = s.few_matches;
        some_entries = leb_is 1 (length table.entries) b.0;
        few_entries = s.few_entries;
        playable = s.playable;
        each_once = record { below = s.below; all = all_listed (length names) table.who a.1; once = s.once };
        counted = s.counted;
        ranked = ranked_is table.entries b.1;
      };
    }

pub table_adds : (head : Head) (own : OwnNoises) (names : List (List ℕ)) (table : Table) (i : Line) → IsSound (states.InBody head own names (parts.Tournament table)) → is_line i ≡ true
    → table_allows head names table i ≡ true → follows head.version own.names names i ≡ true → Adds (states.InBody head own names (parts.Tournament table)) i
table_adds head own names table (lines.Match m) s h e f =
    grown head own names (names_with_match names m) (parts.Tournament table) (parts.Tournament (with_match names table m)) (lines.Match m) refl s
    (match_comes head.version own names m s.1 f) (match_adds head names table m s.2 h e)
table_adds head own names table (lines.Entry x) s h e f =
    grown head own names (with_name names x.name) (parts.Tournament table) (parts.Tournament (with_entry names table x)) (lines.Entry x) refl s
    (entry_comes head.version own names x s.1 f) (entry_adds head names table x s.2 h e)
table_adds head own names table lines.End s h e f =
    closed head own names (parts.Tournament table) (bodies.Tournament table.matches table.who table.entries) refl tt s (all_done head.version own names s.1 f) (whole_is head names table s.2 e, refl)
table_adds head own names table _ s h e f = no_case e
