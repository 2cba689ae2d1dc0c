-- The lines of a valid tournament are each allowed by those before it.
use Rattle.std.proofs.Common.{◌≡◌, ℕ, ◌+◌, ◌<◌, ◌≤◌, true, not, ltb, leb, ◌&&◌, List, [], ◌∷◌, ◌++◌, length, map, Some, refl, sym, ap, subst, ◌∙◌, append_assoc, length-append, arith}
use Rattle.std.specs.Prelude.{◌≢◌}
use Rattle.std.specs.List.{All, AllPairs, AllZip}
use Rattle.std.proofs.lemmas.Bool.Decides.{nat_tests}
use Rattle.std.proofs.lemmas.List.{append-nil}
use Rattle.history_model.specs.Name.{IsName}
use Rattle.texts.specs.Grammar.{run}
use Rattle.result_lines.specs.declared.line.MatchLine.{MatchLine}
use Rattle.result_lines.specs.declared.tables.EntryLine.{EntryLine}
use Rattle.report_lines.specs.declared.line.ShownMatch.{ShownMatch}
use Rattle.report_lines.specs.declared.line.ShownEntry.{ShownEntry}
use Rattle.report_lines.specs.declared.line.Line.{Line}
use Rattle.report_lines.specs.declared.line.Line.TheVariants as lines
use Rattle.report_lines.specs.Texts.{is_match, is_entry}
use Rattle.report_names.specs.declared.own.OwnNoises.{OwnNoises}
use Rattle.report_rules.specs.declared.report.Body.TheVariants as bodies
use Rattle.report_rules.specs.declared.report.Head.{Head}
use Rattle.report_rules.specs.declared.state.BodySoFar.TheVariants as parts
use Rattle.report_rules.specs.declared.state.State.{State}
use Rattle.report_rules.specs.declared.state.State.TheVariants as states
use Rattle.report_rules.specs.Grammar.{grammar}
use Rattle.report_rules.specs.MatchRules.{is_scored, placed_match, names_with_match}
use Rattle.report_names.specs.Names.{name_at, with_name, with_names, place_in}
use Rattle.report_rules.specs.TableRules.{unnamed, adds_up, are_ranked, match_fits, entry_fits, is_whole}
use Rattle.report_names.specs.Places.{is_listed, are_listed}
use Rattle.report_rules.specs.Text.{shown_match, shown_entry, match_lines, entry_lines, body_lines}
use Rattle.report_rules.specs.Valid.{IsMatchOf, IsCountedIn, IsTable, match_names}
use Rattle.report_names.proofs.Growth.{all_head, all_tail, all_differ, names_then, place_kept}
use Rattle.report_rules.proofs.FollowLaws.{OwnsAll, end_follows, entry_follows, match_follows}
use Rattle.report_rules.proofs.MatchRuns.{place_back, placed_back}
use Rattle.report_names.proofs.PlaceLaws.{Differ, none_differ}
use Rattle.report_rules.proofs.Ranges.{both_back, leb_back, match_back, scored_back}
use Rattle.report_rules.proofs.States.{IsSoundBody, table_of, one_line}
use Rattle.report_rules.proofs.TableLaws.{IsRanked, all_in_range, ranked_back, listed_all, unlisted_back, counted_back, unnamed_again, entry_back}

-- names that are all shown, each once
record AreAll (names : List (List ℕ)) : Type 0 where
  are_names : All IsName names
  differ : Differ names

abbrev at : Head → OwnNoises → List (List ℕ) → List MatchLine → List ℕ → List EntryLine → State
at head own names ms who es = states.InBody head own names (parts.Tournament (table_of ms who es))

ltb_back : (a b : ℕ) → a < b → ltb a b ≡ true
ltb_back a b h = grind (arith, nat_tests)

-- ---- matches

match_fits_back : (head : Head) (names : List (List ℕ)) (done : List MatchLine) (m : MatchLine) → IsMatchOf (length names) head m → length done < 2080 → match_fits head (table_of done [] []) (shown_match names m) ≡ true
match_fits_back head names done m v few = both_back (ltb (length done) 2080) (is_scored head (shown_match names m)) (ltb_back (length done) 2080 few) (scored_back head names m v.showable)

matches_run : (head : Head) (own : OwnNoises) (names : List (List ℕ)) → AreAll names → OwnsAll head.version own names → (more : List (List ℕ)) (todo : List MatchLine) (ns : List (List ℕ)) (done : List MatchLine) (rest : List Line)
    → names ≡ with_names ns (match_names names todo ++ more) → All (IsMatchOf (length names) head) todo → length done + length todo ≤ 2080
    → run grammar (at head own ns done [] []) (match_lines names todo ++ rest) ≡ run grammar (at head own (with_names ns (match_names names todo)) (done ++ todo) [] []) rest
matches_run head own names a o more [] ns done rest e all few = ap (λ (ms : List MatchLine). run grammar (at head own ns ms [] []) rest) (sym (append-nil done))
matches_run head own names a o more (m ∷ ms) ns done rest e all few =
    let shown : ShownMatch = shown_match names m in
    let v : IsMatchOf (length names) head m = all_head (IsMatchOf (length names) head) m ms all in
    let tail : List Line = match_lines names ms ++ rest in
    let next : List (List ℕ) = names_with_match ns shown in
    let placed : placed_match ns shown ≡ m = placed_back ns (match_names names ms ++ more) names m e a.differ v.left v.right in
    let is : is_match shown ≡ true = match_back head names m a.are_names v in
    let room : length (done ++ m ∷ []) + length ms ≤ 2080 = omega (arith, few, length-append done (m ∷ [])) in
    one_line (at head own ns done [] []) (lines.Match shown) tail is (both_back _ _ (match_fits_back head names done m v (omega (arith, few))) (match_follows head.version own names ns (match_names names ms ++ more) shown o e))
    ∙ ap (λ (l : MatchLine). run grammar (at head own next (done ++ l ∷ []) [] []) tail) placed
    ∙ matches_run head own names a o more ms next (done ++ m ∷ []) rest e (all_tail (IsMatchOf (length names) head) m ms all) room
    ∙ ap (λ (ds : List MatchLine). run grammar (at head own (with_names next (match_names names ms)) ds [] []) rest) (append_assoc done (m ∷ []) ms)

-- ---- entries

-- what is so of the matches behind which entries stand
record AreMatches (head : Head) (names : List (List ℕ)) (ms : List MatchLine) : Type 0 where
  few : length ms ≤ 2080
  playable : All (IsMatchOf (length names) head) ms

-- entries that have no line yet
record AreLeft (names : List (List ℕ)) (ms : List MatchLine) (ns : List (List ℕ)) (done who : List ℕ) (done_lines es : List EntryLine) : Type 0 where
  shown : names ≡ with_names ns (map (name_at names) who)
  below : All (λ place. place < length names) who
  once : AllPairs (λ a b. a ≢ b) (done ++ who)
  counted : AllZip (IsCountedIn ms) who es
  ranked : All IsRanked es
  few : length done_lines + length es ≤ 64

entry_place : (names ns : List (List ℕ)) (p : ℕ) (ps : List ℕ) → AreAll names → names ≡ with_names ns (map (name_at names) (p ∷ ps)) → p < length names → place_in ns (name_at names p) ≡ p
entry_place names ns p ps a e below = sym (place_kept ns (name_at names p)) ∙ place_back ns (map (name_at names) ps) names (name_at names p) p e a.differ below refl

entry_fits_at : (names : List (List ℕ)) (ms : List MatchLine) (done ps : List ℕ) (done_lines : List EntryLine) (p place : ℕ) (e : EntryLine) → place ≡ p → IsCountedIn ms p e → AllPairs (λ a b. a ≢ b) (done ++ p ∷ ps) → length done_lines < 64
    → ((ltb (length done_lines) 64 && not (is_listed done place)) && adds_up ms place (shown_entry names p e)) ≡ true
entry_fits_at names ms done ps done_lines p place e same v once few =
    subst (λ (q : ℕ). ((ltb (length done_lines) 64 && not (is_listed done q)) && adds_up ms q (shown_entry names p e)) ≡ true) (sym same)
    (both_back (ltb (length done_lines) 64 && not (is_listed done p)) (adds_up ms p (shown_entry names p e))
    (both_back (ltb (length done_lines) 64) (not (is_listed done p)) (ltb_back (length done_lines) 64 few) (unlisted_back done ps p once))
    (counted_back ms names p e v))

entries_run : (head : Head) (own : OwnNoises) (names : List (List ℕ)) → AreAll names → OwnsAll head.version own names → (ms : List MatchLine) → AreMatches head names ms → (who : List ℕ) (es : List EntryLine) (ns : List (List ℕ)) (done : List ℕ) (done_lines : List EntryLine) (rest : List Line)
    → AreLeft names ms ns done who done_lines es
    → run grammar (at head own ns ms done done_lines) (entry_lines names who es ++ rest) ≡ run grammar (at head own (with_names ns (map (name_at names) who)) ms (done ++ who) (done_lines ++ es)) rest
entries_run head own names a o ms v [] [] ns done done_lines rest l =
    ap (λ (d : List ℕ). run grammar (at head own ns ms d done_lines) rest) (sym (append-nil done))
    ∙ ap (λ (d : List EntryLine). run grammar (at head own ns ms (done ++ []) d) rest) (sym (append-nil done_lines))
entries_run head own names a o ms v [] (e ∷ es) ns done done_lines rest l = absurd l.counted
entries_run head own names a o ms v (p ∷ ps) [] ns done done_lines rest l = absurd l.counted
entries_run head own names a o ms v (p ∷ ps) (e ∷ es) ns done done_lines rest l =
    let name : List ℕ = name_at names p in
    let x : ShownEntry = shown_entry names p e in
    let below : p < length names = all_head (λ (q : ℕ). q < length names) p ps l.below in
    let rank : IsRanked e = all_head IsRanked e es l.ranked in
    let tail : List Line = entry_lines names ps es ++ rest in
    let next : List (List ℕ) = with_name ns name in
    let place : place_in ns name ≡ p = entry_place names ns p ps a l.shown below in
    let is : is_entry x ≡ true = entry_back head names ms p e a.are_names below v.few v.playable l.counted.0 rank in
    let fits : entry_fits ns (table_of ms done done_lines) x ≡ true = entry_fits_at names ms done ps done_lines p (place_in ns name) e place l.counted.0 l.once (omega (arith, l.few)) in
    let left : AreLeft names ms next (done ++ p ∷ []) ps (done_lines ++ e ∷ []) es = record {
      shown = l.shown;
      below = all_tail (λ (q : ℕ). q < length names) p ps l.below;
      once = subst (AllPairs (λ (q r : ℕ). q ≢ r)) (sym (append_assoc done (p ∷ []) ps)) l.once;
      counted = l.counted.1;
      ranked = all_tail IsRanked e es l.ranked;
      few = omega (arith, l.few, length-append done_lines (e ∷ []));
    } in
    one_line (at head own ns ms done done_lines) (lines.Entry x) tail is (both_back _ _ fits (entry_follows head.version own names ns (map (name_at names) ps) x o l.shown))
    ∙ ap (λ (q : ℕ). run grammar (at head own next ms (done ++ q ∷ []) (done_lines ++ unnamed x ∷ [])) tail) place
    ∙ ap (λ (y : EntryLine). run grammar (at head own next ms (done ++ p ∷ []) (done_lines ++ y ∷ [])) tail) (unnamed_again names p e)
    ∙ entries_run head own names a o ms v ps es next (done ++ p ∷ []) (done_lines ++ e ∷ []) rest left
    ∙ ap (λ (d : List ℕ). run grammar (at head own (with_names next (map (name_at names) ps)) ms d ((done_lines ++ e ∷ []) ++ es)) rest) (append_assoc done (p ∷ []) ps)
    ∙ ap (λ (d : List EntryLine). run grammar (at head own (with_names next (map (name_at names) ps)) ms (done ++ p ∷ ps) d) rest) (append_assoc done_lines (e ∷ []) es)

-- ---- the end

whole_back : (head : Head) (names : List (List ℕ)) (ms : List MatchLine) (who : List ℕ) (es : List EntryLine) → IsTable (length names) head ms who es → is_whole names (table_of ms who es) ≡ true
whole_back head names ms who es v =
    both_back (leb 1 (length es) && are_ranked es) (are_listed (length names) who)
    (both_back (leb 1 (length es)) (are_ranked es) (leb_back 1 (length es) v.some_entries) (ranked_back es v.ranked))
    (listed_all (length names) who v.each_once.all)

pub table_runs : (head : Head) (own : OwnNoises) (names : List (List ℕ)) (ms : List MatchLine) (who : List ℕ) (es : List EntryLine) → IsSoundBody head names (bodies.Tournament ms who es) → OwnsAll head.version own names
    → run grammar (at head own [] [] [] []) (body_lines names (bodies.Tournament ms who es) ++ lines.End ∷ []) ≡ Some (states.Ended head own.noises names (bodies.Tournament ms who es))
table_runs head own names ms who es v o =
    let t : IsTable (length names) head ms who es = v.holds in
    let whos : List (List ℕ) = map (name_at names) who in
    let first : List (List ℕ) = with_names [] (match_names names ms) in
    let differ : Differ names = subst Differ (sym v.shown) (all_differ [] (match_names names ms ++ whos) none_differ) in
    let a : AreAll names = record { are_names = v.are_names; differ = differ } in
    let then : names ≡ with_names first whos = v.shown ∙ names_then [] (match_names names ms) whos in
    let end : List Line = lines.End ∷ [] in
    let left : AreLeft names ms first [] who [] es = record {
      shown = then;
      below = t.each_once.below;
      once = t.each_once.once;
      counted = t.counted;
      ranked = all_in_range es t.few_entries t.ranked;
      few = omega (arith, t.few_entries);
    } in
    ap (run grammar (at head own [] [] [] [])) (append_assoc (match_lines names ms) (entry_lines names who es) end)
    ∙ matches_run head own names a o whos ms [] [] (entry_lines names who es ++ end) v.shown t.playable (omega (arith, t.few_matches))
    ∙ entries_run head own names a o ms (record { few = t.few_matches; playable = t.playable }) who es first [] [] end left
    ∙ ap (λ (ns : List (List ℕ)). run grammar (at head own ns ms who es) end) (sym then)
    ∙ one_line (at head own names ms who es) lines.End [] refl (both_back _ _ (whole_back head names ms who es t) (end_follows head.version own names names o refl))
