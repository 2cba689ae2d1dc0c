-- A report is valid in at most one way.
use Rattle.std.specs.Prelude.{ℕ, List, [], ◌∷◌}
use Rattle.std.proofs.Props.{props}
use Rattle.std.specs.List.{AllZip}
use Rattle.report_rules.specs.declared.report.Body.{Body}
use Rattle.report_rules.specs.declared.report.Body.TheVariants as bodies
use Rattle.report_rules.specs.declared.report.Head.{Head}
use Rattle.report_rules.specs.declared.report.Report.{Report}
use Rattle.report_rules.specs.Valid.{IsBody, IsFixed, IsValid}

AllZip-prop : {A B : Type 0} (R : A → B → Type 0) → ((a : A) (b : B) → IsProp (R a b)) → (xs : List A) (ys : List B) → IsProp (AllZip R xs ys)
AllZip-prop R each [] [] = Prim.hlevel props
AllZip-prop R each [] (y ∷ ys) = Prim.hlevel props
AllZip-prop R each (x ∷ xs) [] = Prim.hlevel props
AllZip-prop R each (x ∷ xs) (y ∷ ys) = let rest = AllZip-prop R each xs ys in Prim.hlevel (props, each, rest)

pub body_prop : (count : ℕ) (head : Head) (body : Body) → IsProp (IsBody count head body)
body_prop count head (bodies.Match line) = Prim.hlevel props
body_prop count head (bodies.Tournament matches who entries) = Prim.hlevel (props, AllZip-prop)
body_prop count head (bodies.Drill number first sum) = Prim.hlevel props

pub fixed_prop : (head : Head) (body : Body) → IsProp (IsFixed head body)
fixed_prop head (bodies.Match line) = Prim.hlevel props
fixed_prop head (bodies.Tournament matches who entries) = Prim.hlevel props
fixed_prop head (bodies.Drill number first sum) = Prim.hlevel props

pub valid_prop : (report : Report) → IsProp (IsValid report)
valid_prop report = Prim.hlevel (props, body_prop, fixed_prop)
