-- The line of one match, both ways.
use Rattle.std.proofs.Common.{◌≡◌, ℕ, ◌<◌, true, List, [], ◌∷◌, ◌++◌, length, Option, Some, None, refl, sym, ap, subst, ◌∙◌, arith}
use Rattle.std.proofs.lemmas.List.Elements.{All-nil}
use Rattle.history_model.specs.Name.{IsName}
use Rattle.history_model.specs.Noise.{FlipRate}
use Rattle.texts.specs.Grammar.{run}
use Rattle.result_lines.specs.declared.line.MatchLine.{MatchLine}
use Rattle.report_lines.specs.declared.line.ShownMatch.{ShownMatch}
use Rattle.report_lines.specs.declared.line.Line.{Line}
use Rattle.report_lines.specs.declared.line.Line.TheVariants as lines
use Rattle.report_lines.specs.Texts.{is_match, is_line}
use Rattle.report_names.specs.declared.own.OwnNoises.{OwnNoises}
use Rattle.report_rules.specs.declared.report.Body.TheVariants as bodies
use Rattle.report_rules.specs.declared.report.Head.{Head}
use Rattle.report_rules.specs.declared.state.BodySoFar.TheVariants as parts
use Rattle.report_rules.specs.declared.state.State.{State}
use Rattle.report_rules.specs.declared.state.State.TheVariants as states
use Rattle.report_rules.specs.Grammar.{follows, grammar}
use Rattle.report_rules.specs.MatchRules.{is_scored, placed_match, names_with_match, match_allows}
use Rattle.report_names.specs.Names.{name_at, with_name, with_names, place_in}
use Rattle.report_rules.specs.Text.{shown_match, body_lines}
use Rattle.report_rules.specs.Valid.{IsMatchOf}
use Rattle.report_names.proofs.Growth.{all_differ, grows_all}
use Rattle.report_names.proofs.PlaceLaws.{place_below, longer, name_stays, stands_there, Differ, none_differ, with_all}
use Rattle.report_rules.proofs.FollowLaws.{OwnsAll, end_follows, match_follows}
use Rattle.report_rules.proofs.OwnLaws.{all_done, closed, grown, match_comes}
use Rattle.report_rules.proofs.Ranges.{both_back, match_parts, match_back, read_is, scored_back}
use Rattle.report_rules.proofs.States.{IsSound, IsSoundBody, Adds, PartAdds, no_case, one_line}

-- ---- a match line, from its text

left_place : (ns : List (List ℕ)) (m : ShownMatch) → place_in (with_name ns m.left) m.left < length (names_with_match ns m)
left_place ns m = omega (arith, place_below ns m.left, longer (with_name ns m.left) m.right)

pub left_name : (ns : List (List ℕ)) (m : ShownMatch) → name_at (names_with_match ns m) (place_in (with_name ns m.left) m.left) ≡ m.left
left_name ns m =
    name_stays (with_name ns m.left) m.right (place_in (with_name ns m.left) m.left) (place_below ns m.left)
    ∙ stands_there (with_name ns m.left) m.left (place_below ns m.left)

pub right_name : (ns : List (List ℕ)) (m : ShownMatch) → name_at (names_with_match ns m) (place_in (names_with_match ns m) m.right) ≡ m.right
right_name ns m = stands_there (names_with_match ns m) m.right (place_below (with_name ns m.left) m.right)

-- a match that was placed is shown as it was
pub now_shown : (ns : List (List ℕ)) (m : ShownMatch) → shown_match (names_with_match ns m) (placed_match ns m) ≡ m
now_shown ns m = rw (left_name ns m, right_name ns m) refl

-- a match that was placed is one of the names' entries
pub placed_is : (head : Head) (ns : List (List ℕ)) (m : ShownMatch) → is_match m ≡ true → is_scored head m ≡ true → IsMatchOf (length (names_with_match ns m)) head (placed_match ns m)
placed_is head ns m h scored = record {
  left = left_place ns m;
  right = place_below (with_name ns m.left) m.right;
  showable = read_is head m (place_in (with_name ns m.left) m.left) (place_in (names_with_match ns m) m.right) (match_parts m h) scored;
}

sound_match : (head : Head) (m : ShownMatch) → is_match m ≡ true → is_scored head m ≡ true → IsSoundBody head (names_with_match [] m) (bodies.Match (placed_match [] m))
sound_match head m h scored =
    let p = match_parts m h in
    record {
      are_names = with_all IsName (with_name [] m.left) m.right (with_all IsName [] m.left (All-nil IsName) p.left) p.right;
      shown = rw (left_name [] m, right_name [] m) refl;
      holds = placed_is head [] m h scored;
    }

first_match : (head : Head) (names : List (List ℕ)) (m : ShownMatch) → names ≡ [] → is_match m ≡ true → is_scored head m ≡ true
    → PartAdds head names (parts.Match None) (lines.Match m) (names_with_match names m) (parts.Match (Some (placed_match names m)))
first_match head names m none h scored = rw none (sound_match head m h scored, rw (now_shown [] m) refl)

pub match_adds : (head : Head) (own : OwnNoises) (names : List (List ℕ)) (line : Option MatchLine) (i : Line) → IsSound (states.InBody head own names (parts.Match line)) → is_line i ≡ true
    → match_allows head line i ≡ true → follows head.version own.names names i ≡ true → Adds (states.InBody head own names (parts.Match line)) i
match_adds head own names None (lines.Match m) s h e f =
    grown head own names (names_with_match names m) (parts.Match None) (parts.Match (Some (placed_match names m))) (lines.Match m) refl s (match_comes head.version own names m s.1 f) (first_match head names m s.2 h e)
match_adds head own names (Some line) lines.End s h e f =
    closed head own names (parts.Match (Some line)) (bodies.Match line) refl tt s (all_done head.version own names s.1 f) (s.2, refl)
match_adds head own names None _ s h e f = no_case e
match_adds head own names (Some line) _ s h e f = no_case e

-- ---- the line of a valid match is allowed

-- a name that is new or not has the place that it has among all
pub place_back : (ns more names : List (List ℕ)) (name : List ℕ) (k : ℕ) → names ≡ with_names (with_name ns name) more → Differ names → k < length names → name ≡ name_at names k → place_in (with_name ns name) name ≡ k
place_back ns more names name k e differ below is =
    let stays : place_in (with_names (with_name ns name) more) name ≡ place_in (with_name ns name) name = (grows_all (with_name ns name) more).moves_none name (place_below ns name) in
    sym (ap (λ (all : List (List ℕ)). place_in all name) e ∙ stays) ∙ ap (place_in names) is ∙ differ k below

abbrev placed_at : MatchLine → ℕ → ℕ → MatchLine
placed_at line left right = record { left = left; right = right; turns = line.turns; left_score = line.left_score; right_score = line.right_score; tally = line.tally }

-- a match that is shown is placed as it was
pub placed_back : (ns more names : List (List ℕ)) (line : MatchLine) → names ≡ with_names (names_with_match ns (shown_match names line)) more → Differ names → line.left < length names → line.right < length names
    → placed_match ns (shown_match names line) ≡ line
placed_back ns more names line e differ below_left below_right =
    let m = shown_match names line in
    let left : place_in (with_name ns m.left) m.left ≡ line.left = place_back ns (m.right ∷ more) names m.left line.left e differ below_left refl in
    let right : place_in (names_with_match ns m) m.right ≡ line.right = place_back (with_name ns m.left) more names m.right line.right e differ below_right refl in
    ap (λ (k : ℕ). placed_at line k (place_in (names_with_match ns m) m.right)) left ∙ ap (λ (k : ℕ). placed_at line line.left k) right

abbrev end_at : Head → List FlipRate → List (List ℕ) → MatchLine → Option State
end_at head noises names line = Some (states.Ended head noises names (bodies.Match line))

pub match_runs : (head : Head) (own : OwnNoises) (names : List (List ℕ)) (line : MatchLine) → IsSoundBody head names (bodies.Match line) → OwnsAll head.version own names
    → run grammar (states.InBody head own [] (parts.Match None)) (body_lines names (bodies.Match line) ++ lines.End ∷ []) ≡ end_at head own.noises names line
match_runs head own names line v o =
    let m = shown_match names line in
    let differ : Differ names = subst Differ (sym v.shown) (all_differ [] (m.left ∷ m.right ∷ []) none_differ) in
    let placed : placed_match [] m ≡ line = placed_back [] [] names line v.shown differ v.holds.left v.holds.right in
    let is : is_match m ≡ true = match_back head names line v.are_names v.holds in
    let scored : is_scored head m ≡ true = scored_back head names line v.holds.showable in
    let comes : follows head.version own.names [] (lines.Match m) ≡ true = match_follows head.version own names [] [] m o v.shown in
    let ends : follows head.version own.names (names_with_match [] m) lines.End ≡ true = end_follows head.version own names (names_with_match [] m) o v.shown in
    one_line (states.InBody head own [] (parts.Match None)) (lines.Match m) (lines.End ∷ []) is (both_back (is_scored head m) (follows head.version own.names [] (lines.Match m)) scored comes)
    ∙ one_line (states.InBody head own (names_with_match [] m) (parts.Match (Some (placed_match [] m)))) lines.End [] refl ends
    ∙ ap (λ (ns : List (List ℕ)). end_at head own.noises ns (placed_match [] m)) (sym v.shown) ∙ ap (λ (l : MatchLine). end_at head own.noises names l) placed
