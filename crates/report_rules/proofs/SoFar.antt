-- The lines that led to a state, and that they are those of a valid report.
use Rattle.std.proofs.Common.{◌≡◌, ◌⊎◌, ℕ, ◌≤◌, Bool, true, false, not, cond, eqb, ◌&&◌, ◌||◌, List, [], ◌∷◌, ◌++◌, Option, Some, None, refl, sym, ap, subst, ◌∙◌, append_assoc, inl, inr, arith}
use Rattle.std.specs.List.{All}
use Rattle.std.proofs.lemmas.Bool.{eqb-true}
use Rattle.std.proofs.lemmas.List.{append-nil, nil_from_length}
use Rattle.std.proofs.lemmas.List.Elements.{All-cons, All-nil}
use Rattle.history_model.specs.Game.{Payoffs}
use Rattle.history_model.specs.Name.{IsName}
use Rattle.history_model.specs.Noise.{FlipRate, IsFlipRate}
use Rattle.texts.specs.Grammar.{run}
use Rattle.report_lines.specs.declared.line.Kind.{Kind}
use Rattle.report_lines.specs.declared.line.Kind.TheVariants as kinds
use Rattle.report_lines.specs.declared.line.Line.{Line}
use Rattle.report_lines.specs.declared.line.Line.TheVariants as lines
use Rattle.report_lines.specs.declared.line.ShownGame.{ShownGame}
use Rattle.report_lines.specs.HeadForms.{has_two, is_game, is_head, is_version}
use Rattle.report_lines.specs.Payoffs.{IsOffset, are_near, offset_of, raised_game, shown_game}
use Rattle.report_lines.specs.Texts.{is_line, is_noise}
use Rattle.report_lines.proofs.Raising.{game_back, near_back, near_is, offset_back, offset_is, raised_back, shown_again}
use Rattle.report_names.specs.declared.own.OwnNoises.{OwnNoises}
use Rattle.report_names.specs.Names.{with_names}
use Rattle.report_names.proofs.Coming.{none_shown}
use Rattle.report_names.proofs.Growth.{all_differ}
use Rattle.report_names.proofs.PlaceLaws.{Differ, none_differ}
use Rattle.report_rules.specs.declared.report.Body.{Body}
use Rattle.report_rules.specs.declared.report.Body.TheVariants as bodies
use Rattle.report_rules.specs.declared.report.Head.{Head}
use Rattle.report_rules.specs.declared.report.Report.{Report}
use Rattle.report_rules.specs.declared.state.BodySoFar.{BodySoFar}
use Rattle.report_rules.specs.declared.state.BodySoFar.TheVariants as parts
use Rattle.report_rules.specs.declared.state.State.{State}
use Rattle.report_rules.specs.declared.state.State.TheVariants as states
use Rattle.report_rules.specs.Grammar.{after, after_head, allows, follows, grammar, inner_allows, is_game_of, no_own, own_of}
use Rattle.report_rules.specs.MatchRules.{match_allows}
use Rattle.report_rules.specs.Read.{whole}
use Rattle.report_rules.specs.TableRules.{table_allows}
use Rattle.report_rules.specs.Text.{body_lines, drill_lines, first_line, lines_of, own_lines}
use Rattle.report_rules.specs.Valid.{IsFixed, IsValid, head_of, shown_names}
use Rattle.report_rules.proofs.DrillLaws.{drill_adds, drill_runs}
use Rattle.report_rules.proofs.FollowLaws.{OwnsAll, own_so, owns_run}
use Rattle.report_rules.proofs.MatchRuns.{match_adds, match_runs}
use Rattle.report_rules.proofs.OwnLaws.{none_beside, own_adds}
use Rattle.report_rules.proofs.Ranges.{both_back, both_true, noise_is, noise_back}
use Rattle.report_rules.proofs.States.{AreOwn, IsNew, IsSoundBody, IsSoundHead, IsVersion, part_kind, so_far, IsSound, Adds, no_case, one_line, table_of}
use Rattle.report_rules.proofs.TableAdds.{no_table, table_adds}
use Rattle.report_rules.proofs.TableRuns.{table_runs}

apart : true ≡ false → ⊥
apart e = absurd cc

-- ---- the head

version_is : (t u two : Bool) (version : ℕ) → eqb version 1 ≡ t → eqb version 2 ≡ u → (t || (u && two)) ≡ true → IsVersion version
version_is true u two version is one h = let v : version ≡ 1 = eqb-true version 1 is in record { some = omega (arith, v); known = omega (arith, v) }
version_is false true two version is one h = let v : version ≡ 2 = eqb-true version 2 one in record { some = omega (arith, v); known = omega (arith, v) }
version_is false false two version is one h = absurd cc

first_is : (t u : Bool) (version : ℕ) → eqb version 1 ≡ t → eqb version 2 ≡ u → (t || (u && false)) ≡ true → version ≡ 1
first_is true u version is one h = eqb-true version 1 is
first_is false true version is one h = absurd cc
first_is false false version is one h = absurd cc

begins : (version : ℕ) (kind : Kind) → is_version (record { version = version; kind = kind }) ≡ true → Adds states.Start (first_line version kind)
begins version kinds.Match h = ((version_is (eqb version 1) (eqb version 2) true version refl refl h, record { none = refl; sound = λ head. refl }), refl)
begins version kinds.Tournament h = ((version_is (eqb version 1) (eqb version 2) true version refl refl h, record { none = refl; sound = no_table }), refl)
begins version kinds.Drill h =
    let v : version ≡ 1 = first_is (eqb version 1) (eqb version 2) version refl refl h in
    (refl, ap (λ (n : ℕ). first_line n kinds.Drill ∷ []) (sym v))

no_offset : (first : Bool) (version offset : ℕ) → eqb version 1 ≡ first → (not first || eqb offset 0) ≡ true → version ≡ 1 → offset ≡ 0
no_offset true version offset is h e = eqb-true offset 0 h
no_offset false version offset is h e = absurd (apart (sym (ap (λ (n : ℕ). eqb n 1) e) ∙ is))

game_adds : (version : ℕ) (body : BodySoFar) (x : ShownGame) → IsVersion version × IsNew body → is_game x ≡ true → is_game_of version x ≡ true → Adds (states.AfterHead version body) (lines.Game x)
game_adds version body x s h e =
    let a = both_true (not (eqb version 1) || eqb (offset_of x) 0) (are_near x) e in (
      (s.0, no_offset (eqb version 1) version (offset_of x) refl a.0, offset_is x h, near_is x a.1, s.1),
      ap (λ (y : ShownGame). first_line version (part_kind body) ∷ lines.Game y ∷ []) (shown_again x),
    )

noise_adds : (version offset : ℕ) (game : Payoffs) (body : BodySoFar) (noise : FlipRate) → IsSound (states.AfterGame version offset game body) → is_noise noise ≡ true → Adds (states.AfterGame version offset game body) (lines.Noise noise)
noise_adds version offset game body noise s h =
    let head : Head = record { version = version; offset = offset; game = game; noise = noise } in (
      (
        record { told = record { some = s.0.some; known = s.0.known; first = s.1; raised = s.2 }; game = s.3; noise = noise_is noise h },
        record { are_noises = All-nil IsFlipRate; as_many = refl; first = λ e. refl; front = λ e. none_shown [] },
        s.4.sound head,
      ),
      ap (λ (is : List Line). first_line version (part_kind body) ∷ lines.Game (shown_game offset game) ∷ lines.Noise noise ∷ is) s.4.none,
    )

-- ---- the lines behind it

inner_adds : (head : Head) (own : OwnNoises) (names : List (List ℕ)) (body : BodySoFar) (i : Line) → IsSound (states.InBody head own names body) → is_line i ≡ true
    → inner_allows head own names body i (own_of i) ≡ true → Adds (states.InBody head own names body) i
inner_adds head own names body (lines.Own x) s h e = own_adds head own names body x s h e
inner_adds head own names (parts.Match line) i s h e =
    let b = both_true (match_allows head line i) (follows head.version own.names names i) e in
    match_adds head own names line i s h b.0 b.1
inner_adds head own names (parts.Tournament table) i s h e =
    let b = both_true (table_allows head names table i) (follows head.version own.names names i) e in
    table_adds head own names table i s h b.0 b.1

adds : (s : State) (i : Line) → IsSound s → is_line i ≡ true → allows s i ≡ true → Adds s i
adds states.Start (lines.Head x) s h e = begins x.version x.kind (both_true _ _ h).1
adds (states.AfterHead version body) (lines.Game x) s h e = game_adds version body x s h e
adds (states.AfterGame version offset game body) (lines.Noise noise) s h e = noise_adds version offset game body noise s h
adds (states.InBody head own names body) i s h e = inner_adds head own names body i s h e
adds (states.InDrill names drill) i s h e = drill_adds names drill i s h e
adds states.Start _ s h e = no_case e
adds (states.AfterHead version body) _ s h e = no_case e
adds (states.AfterGame version offset game body) _ s h e = no_case e
adds (states.Ended head noises names body) _ s h e = no_case e

went : {A : Type 0} (t : Bool) (x : Option A) (y : A) → cond t x None ≡ Some y → (t ≡ true) × (x ≡ Some y)
went true x y e = (refl, e)
went false x y e = absurd cc

some_is : (x y : State) → Some x ≡ Some y → x ≡ y
some_is x y e = cc

abbrev pub LedBy : State → List Line → State → Type 0
LedBy s is end = IsSound end × (so_far end ≡ so_far s ++ is)

carried : (s end : State) → s ≡ end → IsSound s → LedBy s [] end
carried s end e h = rw (← e) (h, sym (append-nil (so_far s)))

pub run_adds : (is : List Line) (s end : State) → IsSound s → run grammar s is ≡ Some end → LedBy s is end
run_adds [] s end h e = carried s end (some_is s end e) h
run_adds (i ∷ is) s end h e =
    let w = went (is_line i && allows s i) (run grammar (after s i) is) end e in
    let b = both_true (is_line i) (allows s i) w.0 in
    let a = adds s i h b.0 b.1 in
    let r = run_adds is (after s i) end a.0 w.1 in
    (r.0, r.1 ∙ ap (λ (t : List Line). t ++ is) a.1 ∙ append_assoc (so_far s) (i ∷ []) is)

-- ---- the lines of a valid report are allowed

version_cases : (version : ℕ) → 1 ≤ version → version ≤ 2 → (version ≡ 1) ⊎ (version ≡ 2)
version_cases version h k = grind arith

head_by : (version : ℕ) (kind : Kind) → (version ≡ 1) ⊎ (version ≡ 2) → has_two kind ≡ true → is_head (record { version = version; kind = kind }) ≡ true
head_by version kind (inl e) two = rw e refl
head_by version kind (inr e) two = rw (e, two) refl

-- behind the lines that tell of the lab, a body begins
record Begun (head : Head) (noises : List FlipRate) (names : List (List ℕ)) (body : BodySoFar) (rest : List Line) : Type 0 where
  own : OwnNoises
  all : OwnsAll head.version own names
  same : own.noises ≡ noises
  runs : run grammar (states.InBody head no_own [] body) (own_lines names noises ++ rest) ≡ run grammar (states.InBody head own [] body) rest

begun_by : (first : Bool) (head : Head) (noises : List FlipRate) (names : List (List ℕ)) (body : BodySoFar) (rest : List Line) → eqb head.version 1 ≡ first → AreOwn head.version noises names → All IsName names → Differ names → Begun head noises names body rest
begun_by true head noises names body rest is o are_names d =
    let none : noises ≡ [] = nil_from_length noises (o.count ∙ rw is refl) in record {
      own = no_own;
      all = inl is;
      same = sym none;
      runs = ap (λ (own : List Line). run grammar (states.InBody head no_own [] body) (own ++ rest)) (ap (own_lines names) none ∙ none_beside names);
    }
begun_by false head noises names body rest is o are_names d = record {
  own = own_so names noises;
  all = inr refl;
  same = refl;
  runs = owns_run head body is names noises [] [] rest (sym (o.count ∙ rw is refl)) are_names o.are_noises d;
}

game_allowed : (first : Bool) (version : ℕ) (head : Head) → eqb version 1 ≡ first → (version ≡ 1 → head.offset ≡ 0) → (not first || eqb head.offset 0) ≡ true
game_allowed true version head is none = ap (λ (n : ℕ). eqb n 0) (none (eqb-true version 1 is))
game_allowed false version head is none = refl

is_game_back : (head : Head) → IsSoundHead head → is_game_of head.version (shown_game head.offset head.game) ≡ true
is_game_back head s =
    let o : IsOffset head.game head.offset = s.told.raised in
    both_back _ _
    (ap (λ (n : ℕ). not (eqb head.version 1) || eqb n 0) (offset_back head.game head.offset o) ∙ game_allowed (eqb head.version 1) head.version head refl s.told.first)
    (near_back head.game head.offset s.game o)

abbrev with_game : ℕ → BodySoFar → ℕ → Payoffs → State
with_game version body offset game = states.AfterGame version offset game body

-- up to the noises of single names
head_runs : (head : Head) (kind : Kind) (body : BodySoFar) (rest : List Line) → IsSoundHead head → has_two kind ≡ true → after_head head.version kind ≡ states.AfterHead head.version body
    → run grammar states.Start (first_line head.version kind ∷ lines.Game (shown_game head.offset head.game) ∷ lines.Noise head.noise ∷ rest) ≡ run grammar (states.InBody head no_own [] body) rest
head_runs head kind body rest s two start =
    let o : IsOffset head.game head.offset = s.told.raised in
    let x : ShownGame = shown_game head.offset head.game in
    let after_noise : List Line = lines.Noise head.noise ∷ rest in
    one_line states.Start (first_line head.version kind) (lines.Game x ∷ after_noise) (head_by head.version kind (version_cases head.version s.told.some s.told.known) two) refl
    ∙ ap (λ (t : State). run grammar t (lines.Game x ∷ after_noise)) start
    ∙ one_line (states.AfterHead head.version body) (lines.Game x) after_noise (game_back head.game head.offset s.game o) (is_game_back head s)
    ∙ ap (λ (n : ℕ). run grammar (with_game head.version body n (raised_game x)) after_noise) (offset_back head.game head.offset o)
    ∙ ap (λ (g : Payoffs). run grammar (with_game head.version body head.offset g) after_noise) (raised_back head.game head.offset o)
    ∙ one_line (states.AfterGame head.version head.offset head.game body) (lines.Noise head.noise) rest (noise_back head.noise s.noise) refl

abbrev ended : Head → List (List ℕ) → Body → List FlipRate → Option State
ended head names body noises = Some (states.Ended head noises names body)

no_noises : (noises : List FlipRate) (names : List (List ℕ)) (version : ℕ) → AreOwn version noises names → version ≡ 1 → [] ≡ noises
no_noises noises names version o first = sym (nil_from_length noises (o.count ∙ rw first refl))

differ_all : (names shown : List (List ℕ)) → names ≡ with_names [] shown → Differ names
differ_all names shown e = subst Differ (sym e) (all_differ [] shown none_differ)

body_runs : (head : Head) (noises : List FlipRate) (names : List (List ℕ)) (body : Body) → IsSoundHead head → AreOwn head.version noises names → IsSoundBody head names body → IsFixed head body
    → run grammar states.Start (so_far (states.Ended head noises names body)) ≡ ended head names body noises
body_runs head noises names (bodies.Match line) s o v fixed =
    let rest : List Line = body_lines names (bodies.Match line) ++ lines.End ∷ [] in
    let b : Begun head noises names (parts.Match None) rest = begun_by (eqb head.version 1) head noises names (parts.Match None) rest refl o v.are_names (differ_all names (shown_names names (bodies.Match line)) v.shown) in
    head_runs head kinds.Match (parts.Match None) (own_lines names noises ++ rest) s refl refl
    ∙ b.runs ∙ match_runs head b.own names line v b.all ∙ ap (ended head names (bodies.Match line)) b.same
body_runs head noises names (bodies.Tournament ms who es) s o v fixed =
    let body : Body = bodies.Tournament ms who es in
    let rest : List Line = body_lines names body ++ lines.End ∷ [] in
    let b : Begun head noises names (parts.Tournament (table_of [] [] [])) rest = begun_by (eqb head.version 1) head noises names (parts.Tournament (table_of [] [] [])) rest refl o v.are_names (differ_all names (shown_names names body) v.shown) in
    head_runs head kinds.Tournament (parts.Tournament (table_of [] [] [])) (own_lines names noises ++ rest) s refl refl
    ∙ b.runs ∙ table_runs head b.own names ms who es v b.all ∙ ap (ended head names body) b.same
body_runs head noises names (bodies.Drill number first sum) s o v fixed =
    let body : Body = bodies.Drill number first sum in
    let version : head.version ≡ 1 = ap (λ (h : Head). h.version) fixed in
    ap (λ (n : ℕ). run grammar states.Start (first_line n kinds.Drill ∷ (drill_lines names number first sum ++ lines.End ∷ []))) version
    ∙ drill_runs head names number first sum v
    ∙ ap (λ (h : Head). ended h names body []) (sym fixed)
    ∙ ap (ended head names body) (no_noises noises names head.version o version)

pub runs : (r : Report) → IsValid r → run grammar states.Start (lines_of r) ≡ Some (whole r)
runs r v =
    body_runs (head_of r) r.noises r.names r.body (record { told = v.head; game = v.game; noise = v.noise }) (record { are_noises = v.are_noises; count = v.own })
    (record { are_names = v.are_names; shown = v.shown; holds = v.body }) v.fixed

-- ---- the lines of a valid report can be printed

run_prints : (is : List Line) (s end : State) → run grammar s is ≡ Some end → All (λ i. is_line i ≡ true) is
run_prints [] s end e = All-nil (λ i. is_line i ≡ true)
run_prints (i ∷ is) s end e =
    let w = went (is_line i && allows s i) (run grammar (after s i) is) end e in
    let b = both_true (is_line i) (allows s i) w.0 in
    All-cons (λ i. is_line i ≡ true) i is b.0 (run_prints is (after s i) end w.1)

pub lines_print : (r : Report) → IsValid r → All (λ i. is_line i ≡ true) (lines_of r)
lines_print r v = run_prints (lines_of r) states.Start (whole r) (runs r v)
