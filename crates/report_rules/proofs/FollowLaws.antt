-- The names of a valid report come in the order of their noises.
use Rattle.std.proofs.Common.{◌≡◌, ◌⊎◌, ℕ, Bool, true, false, not, eqb, ◌||◌, List, [], ◌∷◌, ◌++◌, length, refl, sym, ap, subst, ◌∙◌, inl, inr, append_assoc, arith}
use Rattle.std.specs.List.{All}
use Rattle.std.proofs.lemmas.List.{append-nil}
use Rattle.history_model.specs.Name.{IsName}
use Rattle.history_model.specs.Noise.{FlipRate, IsFlipRate}
use Rattle.texts.specs.Grammar.{run}
use Rattle.report_lines.specs.declared.line.Line.{Line}
use Rattle.report_lines.specs.declared.line.Line.TheVariants as lines
use Rattle.report_lines.specs.declared.line.ShownEntry.{ShownEntry}
use Rattle.report_lines.specs.declared.line.ShownMatch.{ShownMatch}
use Rattle.report_lines.specs.declared.line.ShownOwn.{ShownOwn}
use Rattle.report_lines.specs.HeadForms.{is_own}
use Rattle.report_names.specs.declared.own.OwnNoises.{OwnNoises}
use Rattle.report_names.specs.Names.{is_among, with_name, with_names}
use Rattle.report_names.proofs.Coming.{comes_back, first_own}
use Rattle.report_names.proofs.Growth.{all_head, all_tail}
use Rattle.report_names.proofs.PlaceLaws.{Differ}
use Rattle.report_rules.specs.declared.report.Head.{Head}
use Rattle.report_rules.specs.declared.state.BodySoFar.{BodySoFar}
use Rattle.report_rules.specs.declared.state.State.TheVariants as states
use Rattle.report_rules.specs.Grammar.{follows, grammar, own_allows}
use Rattle.report_rules.specs.MatchRules.{names_with_match}
use Rattle.report_rules.specs.Text.{own_lines, shown_own}
use Rattle.report_rules.proofs.Ranges.{both_back, noise_back, same_number}
use Rattle.report_rules.proofs.States.{one_line}

-- it is the first version, or all names have a noise, in their order
abbrev pub OwnsAll : ℕ → OwnNoises → List (List ℕ) → Type 0
OwnsAll version own names = (eqb version 1 ≡ true) ⊎ (own.names ≡ names)

or_second : (first rest : Bool) → rest ≡ true → (first || rest) ≡ true
or_second true rest h = refl
or_second false rest h = h

pub match_follows : (version : ℕ) (own : OwnNoises) (names ns more : List (List ℕ)) (m : ShownMatch) → OwnsAll version own names → names ≡ with_names (names_with_match ns m) more → follows version own.names ns (lines.Match m) ≡ true
match_follows version own names ns more m (inl first) e = rw first refl
match_follows version own names ns more m (inr all) e =
    let left = comes_back own.names ns (m.right ∷ more) m.left (all ∙ e) in
    or_second (eqb version 1) _ (both_back _ _ left (comes_back own.names (with_name ns m.left) more m.right (all ∙ e)))

pub entry_follows : (version : ℕ) (own : OwnNoises) (names ns more : List (List ℕ)) (x : ShownEntry) → OwnsAll version own names → names ≡ with_names (with_name ns x.name) more → follows version own.names ns (lines.Entry x) ≡ true
entry_follows version own names ns more x (inl first) e = rw first refl
entry_follows version own names ns more x (inr all) e = or_second (eqb version 1) _ (comes_back own.names ns more x.name (all ∙ e))

pub end_follows : (version : ℕ) (own : OwnNoises) (names ns : List (List ℕ)) → OwnsAll version own names → names ≡ ns → follows version own.names ns lines.End ≡ true
end_follows version own names ns (inl first) e = rw first refl
end_follows version own names ns (inr all) e =
    or_second (eqb version 1) _ (ap (λ (all_names : List (List ℕ)). eqb (length ns) (length all_names)) (all ∙ e) ∙ same_number (length ns))

-- ---- the lines of the noises of single names

abbrev pub own_so : List (List ℕ) → List FlipRate → OwnNoises
own_so names noises = record { names = names; noises = noises }

not_back : (t : Bool) → t ≡ false → not t ≡ true
not_back true h = absurd cc
not_back false h = refl

own_back : (name : List ℕ) (noise : FlipRate) → IsName name → IsFlipRate noise → is_own (shown_own name noise) ≡ true
own_back name noise h k = rw (h, noise_back noise k) refl

-- behind the head of a report of version 2, all lines of noises are allowed
pub owns_run : (head : Head) (body : BodySoFar) → eqb head.version 1 ≡ false → (names : List (List ℕ)) (noises : List FlipRate) (done : List (List ℕ)) (rates : List FlipRate) (rest : List Line)
    → length names ≡ length noises → All IsName names → All IsFlipRate noises → Differ (done ++ names)
    → run grammar (states.InBody head (own_so done rates) [] body) (own_lines names noises ++ rest) ≡ run grammar (states.InBody head (own_so (done ++ names) (rates ++ noises)) [] body) rest
owns_run head body later [] [] done rates rest same are_names are_noises d =
    ap (λ (ns : List (List ℕ)). run grammar (states.InBody head (own_so ns rates) [] body) rest) (sym (append-nil done))
    ∙ ap (λ (rs : List FlipRate). run grammar (states.InBody head (own_so (done ++ []) rs) [] body) rest) (sym (append-nil rates))
owns_run head body later [] (r ∷ rs) done rates rest same are_names are_noises d = absurd (omega (arith, same))
owns_run head body later (n ∷ ns) [] done rates rest same are_names are_noises d = absurd (omega (arith, same))
owns_run head body later (n ∷ ns) (r ∷ rs) done rates rest same are_names are_noises d =
    let x : ShownOwn = shown_own n r in
    let fits : own_allows head.version done [] x ≡ true = both_back _ _ (both_back _ _ (not_back (eqb head.version 1) later) refl) (not_back (is_among n done) (first_own done ns n d)) in
    let is : is_own x ≡ true = own_back n r (all_head IsName n ns are_names) (all_head IsFlipRate r rs are_noises) in
    let differ : Differ ((done ++ n ∷ []) ++ ns) = subst Differ (sym (append_assoc done (n ∷ []) ns)) d in
    one_line (states.InBody head (own_so done rates) [] body) (lines.Own x) (own_lines ns rs ++ rest) is fits
    ∙ owns_run head body later ns rs (done ++ n ∷ []) (rates ++ r ∷ []) rest (omega (arith, same)) (all_tail IsName n ns are_names) (all_tail IsFlipRate r rs are_noises) differ
    ∙ ap (λ (xs : List (List ℕ)). run grammar (states.InBody head (own_so xs ((rates ++ r ∷ []) ++ rs)) [] body) rest) (append_assoc done (n ∷ []) ns)
    ∙ ap (λ (xs : List FlipRate). run grammar (states.InBody head (own_so (done ++ n ∷ ns) xs) [] body) rest) (append_assoc rates (r ∷ []) rs)
