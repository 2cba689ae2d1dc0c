-- Noises of single names, and the order in which these names are shown.
use Rattle.std.proofs.Common.{◌≡◌, ℕ, ◌<◌, Bool, true, false, not, eqb, ◌&&◌, ◌||◌, List, [], ◌∷◌, ◌++◌, length, Some, None, refl, sym, ap, subst, ◌∙◌, append_assoc, length-append, arith}
use Rattle.std.specs.List.{All}
use Rattle.std.proofs.lemmas.Bool.{eqb-true}
use Rattle.std.proofs.lemmas.List.{append-nil}
use Rattle.std.proofs.lemmas.List.Elements.{All-push}
use Rattle.history_model.specs.Noise.{FlipRate, IsFlipRate}
use Rattle.result_lines.specs.declared.line.MatchLine.{MatchLine}
use Rattle.result_lines.specs.declared.tables.EntryLine.{EntryLine}
use Rattle.report_lines.specs.declared.line.Kind.{Kind}
use Rattle.report_lines.specs.declared.line.Line.{Line}
use Rattle.report_lines.specs.declared.line.Line.TheVariants as lines
use Rattle.report_lines.specs.declared.line.ShownEntry.{ShownEntry}
use Rattle.report_lines.specs.declared.line.ShownMatch.{ShownMatch}
use Rattle.report_lines.specs.declared.line.ShownOwn.{ShownOwn}
use Rattle.report_lines.specs.HeadForms.{is_own}
use Rattle.report_lines.specs.Payoffs.{shown_game}
use Rattle.report_names.specs.declared.own.OwnNoises.{OwnNoises}
use Rattle.report_names.specs.Names.{both_come, comes, is_among, with_name}
use Rattle.report_names.proofs.Coming.{all_shown, comes_front, none_shown}
use Rattle.report_rules.specs.declared.report.Body.{Body}
use Rattle.report_rules.specs.declared.report.Head.{Head}
use Rattle.report_rules.specs.declared.state.BodySoFar.{BodySoFar}
use Rattle.report_rules.specs.declared.state.BodySoFar.TheVariants as parts
use Rattle.report_rules.specs.declared.state.State.TheVariants as states
use Rattle.report_rules.specs.Grammar.{follows, own_allows}
use Rattle.report_rules.specs.MatchRules.{names_with_match}
use Rattle.report_rules.specs.Text.{body_lines, first_line, match_lines, own_lines, shown_own, side_by_side}
use Rattle.report_rules.specs.Valid.{IsFixed, IsMatchOf}
use Rattle.report_rules.proofs.Ranges.{both_true, noise_is}
use Rattle.report_rules.proofs.States.{AreOwn, IsSound, IsSoundOwn, IsSoundPart, PartAdds, PartEnds, Adds, part_kind, part_lines, so_far}
use Rattle.report_rules.proofs.TableLaws.{beside_push}

-- ---- a line behind those of a body

abbrev framed : Head → Kind → List Line → List Line → List Line
framed head kind own rest = first_line head.version kind ∷ lines.Game (shown_game head.offset head.game) ∷ lines.Noise head.noise ∷ (own ++ rest)

abbrev pub Grown : Head → OwnNoises → List (List ℕ) → BodySoFar → Line → List (List ℕ) → BodySoFar → Type 0
Grown head own names body i more next = IsSound (states.InBody head own more next) × (so_far (states.InBody head own more next) ≡ so_far (states.InBody head own names body) ++ i ∷ [])

pub grown : (head : Head) (own : OwnNoises) (names more : List (List ℕ)) (body next : BodySoFar) (i : Line) → part_kind next ≡ part_kind body → IsSound (states.InBody head own names body)
    → IsSoundOwn head.version own more → PartAdds head names body i more next → Grown head own names body i more next
grown head own names more body next i kind s o adds =
    let owns : List Line = own_lines own.names own.noises in (
      (s.0, o, adds.0),
      ap (λ (k : Kind). framed head k owns (part_lines more next)) kind
          ∙ ap (framed head (part_kind body) owns) adds.1
          ∙ ap (framed head (part_kind body) []) (sym (append_assoc owns (part_lines names body) (i ∷ []))),
    )

pub closed : (head : Head) (own : OwnNoises) (names : List (List ℕ)) (body : BodySoFar) (whole : Body)
    → so_far (states.Ended head own.noises names whole) ≡ framed head (part_kind body) (own_lines names own.noises) (body_lines names whole ++ lines.End ∷ []) → IsFixed head whole
    → IsSound (states.InBody head own names body) → AreOwn head.version own.noises names × (own_lines own.names own.noises ≡ own_lines names own.noises) → PartEnds head names body whole
    → IsSound (states.Ended head own.noises names whole) × (so_far (states.Ended head own.noises names whole) ≡ so_far (states.InBody head own names body) ++ lines.End ∷ [])
closed head own names body whole lines_are fixed s o ends =
    let owns : List Line = own_lines own.names own.noises in
    let kind : Kind = part_kind body in (
      (s.0, o.0, ends.0, fixed),
      lines_are
          ∙ ap (λ (is : List Line). framed head kind is (body_lines names whole ++ lines.End ∷ [])) (sym o.1)
          ∙ ap (λ (is : List Line). framed head kind owns (is ++ lines.End ∷ [])) ends.1
          ∙ ap (framed head kind []) (sym (append_assoc owns (part_lines names body) (lines.End ∷ []))),
    )

-- ---- names in order

or_right : (first rest : Bool) → (first || rest) ≡ true → first ≡ false → rest ≡ true
or_right true rest h later = absurd cc
or_right false rest h later = h

pub match_comes : (version : ℕ) (own : OwnNoises) (names : List (List ℕ)) (m : ShownMatch) → IsSoundOwn version own names → follows version own.names names (lines.Match m) ≡ true → IsSoundOwn version own (names_with_match names m)
match_comes version own names m s h = record {
  are_noises = s.are_noises;
  as_many = s.as_many;
  first = s.first;
  front = λ later.
      let both = both_true (comes own.names names m.left) (comes own.names (with_name names m.left) m.right) (or_right (eqb version 1) (both_come own.names names m.left m.right) h later) in
      comes_front own.names (with_name names m.left) m.right (comes_front own.names names m.left (s.front later) both.0) both.1;
}

pub entry_comes : (version : ℕ) (own : OwnNoises) (names : List (List ℕ)) (x : ShownEntry) → IsSoundOwn version own names → follows version own.names names (lines.Entry x) ≡ true → IsSoundOwn version own (with_name names x.name)
entry_comes version own names x s h = record {
  are_noises = s.are_noises;
  as_many = s.as_many;
  first = s.first;
  front = λ later. comes_front own.names names x.name (s.front later) (or_right (eqb version 1) (comes own.names names x.name) h later);
}

pub none_beside : (names : List (List ℕ)) → own_lines names [] ≡ []
none_beside [] = refl
none_beside (name ∷ names) = refl

abbrev Done : ℕ → OwnNoises → List (List ℕ) → Type 0
Done version own names = AreOwn version own.noises names × (own_lines own.names own.noises ≡ own_lines names own.noises)

done_by : (first : Bool) (version : ℕ) (own : OwnNoises) (names : List (List ℕ)) → eqb version 1 ≡ first → IsSoundOwn version own names → follows version own.names names lines.End ≡ true → Done version own names
done_by true version own names is s h =
    let none : own.noises ≡ [] = s.first is in (
      record { are_noises = s.are_noises; count = rw (is, none) refl },
      rw (none, none_beside own.names, none_beside names) refl,
    )
done_by false version own names is s h =
    let as_long : length names ≡ length own.names = eqb-true (length names) (length own.names) (or_right (eqb version 1) (eqb (length names) (length own.names)) h is) in
    let all : own.names ≡ names = all_shown own.names names (s.front is) as_long in (
      record { are_noises = s.are_noises; count = rw is (s.as_many ∙ ap (λ (ns : List (List ℕ)). length ns) all) },
      ap (λ (ns : List (List ℕ)). own_lines ns own.noises) all,
    )

-- behind the last line each name has its noise, or none has one
pub all_done : (version : ℕ) (own : OwnNoises) (names : List (List ℕ)) → IsSoundOwn version own names → follows version own.names names lines.End ≡ true → Done version own names
all_done version own names s h = done_by (eqb version 1) version own names refl s h

-- ---- the noise of one more name

none_of : (ms : List MatchLine) (head : Head) → All (IsMatchOf 0 head) ms → match_lines [] ms ≡ []
none_of [] head all = refl
none_of (m ∷ ms) head all = absurd (omega (arith, (all 0 m (omega arith)).left))

no_entries : (f : ℕ → EntryLine → Line) (who : List ℕ) (es : List EntryLine) → All (λ place. place < 0) who → side_by_side f who es ≡ []
no_entries f [] es all = refl
no_entries f (p ∷ ps) es all = absurd (omega (arith, all 0 p (omega arith)))

-- where no name was shown, no line was
nothing : (head : Head) (body : BodySoFar) → IsSoundPart head [] body → part_lines [] body ≡ []
nothing head (parts.Match None) s = refl
nothing head (parts.Match (Some line)) s = absurd (omega (arith, s.holds.left))
nothing head (parts.Tournament table) s = rw (none_of table.matches head s.playable, no_entries _ table.who table.entries s.below) refl

nil_is : (names : List (List ℕ)) → length names ≡ 0 → names ≡ []
nil_is [] e = refl
nil_is (name ∷ names) e = absurd (omega (arith, e))

not_first : (first : Bool) → not first ≡ true → first ≡ true → ⊥
not_first true h e = absurd cc
not_first false h e = absurd cc

record OwnFits (version : ℕ) (names : List (List ℕ)) : Type 0 where
  later : not (eqb version 1) ≡ true
  none : names ≡ []

own_fits : (version : ℕ) (owners names : List (List ℕ)) (x : ShownOwn) → own_allows version owners names x ≡ true → OwnFits version names
own_fits version owners names x h =
    let a = both_true (not (eqb version 1) && eqb (length names) 0) (not (is_among x.name owners)) h in
    let b = both_true (not (eqb version 1)) (eqb (length names) 0) a.0 in
    record { later = b.0; none = nil_is names (eqb-true (length names) 0 b.1) }

abbrev with_one : OwnNoises → ShownOwn → OwnNoises
with_one own x = record { names = own.names ++ x.name ∷ []; noises = own.noises ++ x.noise ∷ [] }

own_sound : (version : ℕ) (own : OwnNoises) (x : ShownOwn) → IsSoundOwn version own [] → is_own x ≡ true → not (eqb version 1) ≡ true → IsSoundOwn version (with_one own x) []
own_sound version own x s h later = record {
  are_noises = All-push IsFlipRate own.noises x.noise s.are_noises (noise_is x.noise (both_true _ _ h).1);
  as_many = omega (arith, s.as_many, length-append own.noises (x.noise ∷ []), length-append own.names (x.name ∷ []));
  first = λ e. absurd (not_first (eqb version 1) later e);
  front = λ e. none_shown (own.names ++ x.name ∷ []);
}

own_lines_with : (own : OwnNoises) (x : ShownOwn) → length own.noises ≡ length own.names → own_lines (own.names ++ x.name ∷ []) (own.noises ++ x.noise ∷ []) ≡ own_lines own.names own.noises ++ lines.Own x ∷ []
own_lines_with own x same = beside_push (λ (name : List ℕ) (noise : FlipRate). lines.Own (shown_own name noise)) own.names own.noises x.name x.noise (sym same)

first_own : (head : Head) (own : OwnNoises) (body : BodySoFar) (x : ShownOwn) → IsSound (states.InBody head own [] body) → is_own x ≡ true → not (eqb head.version 1) ≡ true
    → IsSound (states.InBody head (with_one own x) [] body) × (so_far (states.InBody head (with_one own x) [] body) ≡ so_far (states.InBody head own [] body) ++ lines.Own x ∷ [])
first_own head own body x s h later =
    let owns : List Line = own_lines own.names own.noises in
    let kind : Kind = part_kind body in
    let none : part_lines [] body ≡ [] = nothing head body s.2 in (
      (s.0, own_sound head.version own x s.1 h later, s.2),
      ap (λ (is : List Line). framed head kind is (part_lines [] body)) (own_lines_with own x s.1.as_many)
          ∙ ap (framed head kind (owns ++ lines.Own x ∷ [])) none
          ∙ ap (framed head kind []) (append-nil (owns ++ lines.Own x ∷ []))
          ∙ ap (λ (is : List Line). framed head kind [] (is ++ lines.Own x ∷ [])) (sym (append-nil owns))
          ∙ ap (λ (is : List Line). framed head kind [] ((owns ++ is) ++ lines.Own x ∷ [])) (sym none),
    )

pub own_adds : (head : Head) (own : OwnNoises) (names : List (List ℕ)) (body : BodySoFar) (x : ShownOwn) → IsSound (states.InBody head own names body) → is_own x ≡ true → own_allows head.version own.names names x ≡ true
    → Adds (states.InBody head own names body) (lines.Own x)
own_adds head own names body x s h e =
    let fits = own_fits head.version own.names names x e in
    let sound : IsSound (states.InBody head own [] body) = subst (λ (ns : List (List ℕ)). IsSound (states.InBody head own ns body)) fits.none s in
    subst (λ (ns : List (List ℕ)). Adds (states.InBody head own ns body) (lines.Own x)) (sym fits.none) (first_own head own body x sound h fits.later)
