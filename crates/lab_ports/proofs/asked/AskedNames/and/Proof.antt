-- `and` makes a value of no bytes, whose ghost field has one name more.
use Rattle.lab_ports.proofs.Walks.{◌⊛◌, ℕ, List, Slot, plain, RefOf, StrRefOf, [], ◌∷◌, ◌++◌, refl, Val, vstruct, vcons, vnil, Fml, proved, raw, ‵, ◌$◌, ◌∵◌, !, qed, move, keep, split, join, fjoin, use0, suffices, done, enter, no_more, and_then, returns, agg, alloc_all, pass_all, free_all, look_at, get, sets, type_at, types_at, owns, alive, makes_shadow, nothing, walk_of, says, Stays, stay_dropped, Goes-dropped, ends_at, yes, shr_vals, shr_slice_vals}
use Rattle.lab_ports.specs.contracts.asked.AskedNames as names
use Rattle.lab_ports.specs.contracts.asked.AskedNames.and as f
use Rattle.lab_ports.proofs.asked.AskedNames.and.Statement.{statement}
use Rattle.lab_ports.proofs.asked.AskedNames.and.Code as code

abbrev Names : Slot 2
Names = RefOf (0 ∷ []) tt (plain (λ _. names.the_row)) (λ _. tt)

abbrev Text : Slot 2
Text = StrRefOf (1 ∷ []) tt

abbrev stayed : Stays f.ended.signature.params f.ended.kept
stayed = (stay_dropped Names yes, (stay_dropped Text yes, tt))

pub and_spec : {M : Type 1} → statement M
and_spec 𝓤 𝓛 𝓜 𝓡 wired =
    let c = f.clauses 𝓛 𝓜.mem 𝓡.returns in let W = walk_of 𝓛 f.ended stayed c in
    proved 𝓛 f.ended stayed c 𝓜 𝓡 (Goes-dropped 𝓛 2 Names yes (λ κs x w. refl), (Goes-dropped 𝓛 2 Text yes (λ κs x w. refl), tt))
    f.Key.name code.function (code.unfolded 𝓤 𝓛.H 𝓜 𝓡 wired)
    (λ κs. (shr_vals, (shr_slice_vals, tt))) (λ κs. ((λ x vs p. p.0), ((λ x vs p. p.0.0.0), tt)))
    (λ κs qs bounds a g are.
    let vss : List Val × (List Val × Unit {0}) = (shr_vals a.0, (shr_slice_vals a.1.0, tt)) in
    let y : W.Ghost = ((κs, qs, bounds, a, vss), g) in
    let v : Val = vstruct (vcons (vstruct vnil) vnil) in
    let longer : List (List ℕ) = a.0.now.names ++ a.1.0.now ∷ [] in
    let O : Fml = (type_at (f.ended).signature.result κs).own_val (record { marker = record {}; names = longer }) (v ∷ []) in
    qed 𝓛 ((raw (alive 𝓛 f.signature κs qs) ⊛ ‵ (owns (types_at (f.ended).signature.params κs) a vss)) ∷ raw ((c κs a).requires g) ∷ []) ∵ split ! $ keep ! (0 ∷ []) $
    enter ! _ _ _ _ _ $ alloc_all ! (λ l. pass_all ! refl ((tt, tt), ((tt, (tt, (record { fits = are.1.0.0.0.1.0 }, tt))), tt)) $
    sets ! (agg ! (no_more !)) refl (tt, tt) $ sets ! (agg ! (and_then ! (get ! refl) (no_more !))) refl (tt, (tt, tt)) $
    returns ! (look_at ! 0 refl) $ free_all ! refl $
    use0 𝓛 (‵ O) (makes_shadow 𝓛 O ((λ vss. (tt, ((λ uss. (tt, tt)), tt))), tt) (((vstruct vnil ∷ [], tt), (refl, ((tt, (refl, tt)), tt))), tt)) $
    suffices ! _ (ends_at 𝓛 f.ended stayed c y v (record { marker = record {}; names = longer }) (tt, (tt, tt)) (tt, (tt, tt))) $ says ! refl $
    nothing ! $ nothing ! $ fjoin ! $ nothing ! $ fjoin ! $ join ! $ move ! (1 ∷ 0 ∷ []) $ join ! $ done !))
