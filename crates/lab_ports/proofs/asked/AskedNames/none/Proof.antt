-- `none` makes a value of no bytes, whose ghost field is the empty list.
use Rattle.lab_ports.proofs.Walks.{◌⊛◌, [], ◌∷◌, refl, Val, vstruct, vcons, vnil, Fml, proved, raw, ‵, ◌$◌, ◌∵◌, !, qed, move, keep, split, join, use0, suffices, done, enter, no_more, and_then, returns, agg, alloc_all, pass_all, free_all, look_at, get, sets, type_at, types_at, owns, alive, makes_shadow, nothing, walk_of, says, Stays, ends_at}
use Rattle.lab_ports.specs.contracts.asked.AskedNames.none as f
use Rattle.lab_ports.proofs.asked.AskedNames.none.Statement.{statement}
use Rattle.lab_ports.proofs.asked.AskedNames.none.Code as code

abbrev stayed : Stays f.ended.signature.params f.ended.kept
stayed = tt

pub none_spec : {M : Type 1} → statement M
none_spec 𝓤 𝓛 𝓜 𝓡 wired =
    let c = f.clauses 𝓛 𝓜.mem 𝓡.returns in let W = walk_of 𝓛 f.ended stayed c in
    proved 𝓛 f.ended stayed c 𝓜 𝓡 tt f.Key.name code.function (code.unfolded 𝓤 𝓛.H 𝓜 𝓡 wired) (λ κs. tt) (λ κs. tt)
    (λ κs qs bounds a g are.
    let y : W.Ghost = ((κs, qs, bounds, a, tt), g) in
    let v : Val = vstruct (vcons (vstruct vnil) vnil) in
    let O : Fml = (type_at (f.ended).signature.result κs).own_val (record { marker = record {}; names = [] }) (v ∷ []) in
    qed 𝓛 ((raw (alive 𝓛 f.signature κs qs) ⊛ ‵ (owns (types_at (f.ended).signature.params κs) a tt)) ∷ raw ((c κs a).requires g) ∷ []) ∵ split ! $ keep ! (0 ∷ []) $
    enter ! _ _ _ _ _ $ alloc_all ! (λ l. pass_all ! refl tt $
    sets ! (agg ! (no_more !)) refl (tt, tt) $ sets ! (agg ! (and_then ! (get ! refl) (no_more !))) refl (tt, (tt, tt)) $
    returns ! (look_at ! 0 refl) $ free_all ! refl $
    use0 𝓛 (‵ O) (makes_shadow 𝓛 O ((λ vss. (tt, ((λ uss. (tt, tt)), tt))), tt) (((vstruct vnil ∷ [], tt), (refl, ((tt, (refl, tt)), tt))), tt)) $
    suffices ! _ (ends_at 𝓛 f.ended stayed c y v (record { marker = record {}; names = [] }) tt tt) $ says ! refl $
    nothing ! $ join ! $ move ! (1 ∷ 0 ∷ []) $ join ! $ done !))
