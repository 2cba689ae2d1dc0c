-- What reading answers, line by line.
use Rattle.std.proofs.Common.{◌≡◌, ◌≢◌, ℕ, suc, ◌+◌, ◌<◌, ◌≤◌, Bool, true, false, cond, eqb, ◌&&◌, not, List, [], ◌∷◌, ◌++◌, length, get_or, take, drop, add-one, Option, Some, None, Result, Ok, Err, refl, sym, ap, subst, ◌∙◌, append_assoc, arith}
use Rattle.std.proofs.lemmas.Bool.{eqb-true}
use Rattle.std.proofs.lemmas.Bool.Decides.{nat_tests}
use Rattle.std.proofs.lemmas.List.{append-nil, nil_from_length, take_more, take-append-drop, take_all}
use Rattle.std.proofs.Math.Seq.{drop-cons}
use Rattle.texts.specs.Cuts.{before, lacks}
use Rattle.texts.specs.Grammar.{Grammar, run, text_of, Reads, IsFirstBad, onto_first, pieces, step, or_bad_line, read_on, IsExact}
use Rattle.texts.proofs.CutLaws.{both_true, lacks_append, before_at}
use Rattle.texts.proofs.NumberLaws.{went, some_is}
use Rattle.texts.proofs.PointLaws.{bind_some}

-- ---- pieces

abbrev pub joined : List (List ℕ) → List ℕ
joined [] = []
joined (p ∷ []) = p
joined (p ∷ q ∷ more) = p ++ 10 ∷ joined (q ∷ more)

abbrev pub AllLack : List (List ℕ) → Type 0
AllLack [] = Unit {0}
AllLack (p ∷ ps) = (lacks 10 p ≡ true) × AllLack ps

abbrev pub IsSome : List (List ℕ) → Type 0
IsSome [] = ⊥
IsSome (p ∷ ps) = Unit {0}

onto_some : (x : ℕ) (ps : List (List ℕ)) → IsSome (onto_first x ps)
onto_some x [] = tt
onto_some x (p ∷ ps) = tt

cond_some : (t : Bool) (ps qs : List (List ℕ)) → IsSome ps → IsSome qs → IsSome (cond t ps qs)
cond_some true ps qs h k = h
cond_some false ps qs h k = k

pub pieces_some : (xs : List ℕ) → IsSome (pieces xs)
pieces_some [] = tt
pieces_some (x ∷ xs) = cond_some (eqb x 10) ([] ∷ pieces xs) (onto_first x (pieces xs)) tt (onto_some x (pieces xs))

joined_onto : (x : ℕ) (ps : List (List ℕ)) → joined (onto_first x ps) ≡ x ∷ joined ps
joined_onto x [] = refl
joined_onto x (p ∷ []) = refl
joined_onto x (p ∷ q ∷ more) = refl

joined_new : (ps : List (List ℕ)) → IsSome ps → joined ([] ∷ ps) ≡ 10 ∷ joined ps
joined_new [] h = absurd h
joined_new (p ∷ ps) h = refl

joined_cond : (t : Bool) (x : ℕ) (xs : List ℕ) → t ≡ eqb x 10 → joined (pieces xs) ≡ xs → joined (cond t ([] ∷ pieces xs) (onto_first x (pieces xs))) ≡ x ∷ xs
joined_cond true x xs e h = joined_new (pieces xs) (pieces_some xs) ∙ ap (λ (t : List ℕ). 10 ∷ t) h ∙ ap (λ (y : ℕ). y ∷ xs) (sym (eqb-true x 10 (sym e)))
joined_cond false x xs e h = joined_onto x (pieces xs) ∙ ap (λ (t : List ℕ). x ∷ t) h

pub joined_pieces : (xs : List ℕ) → joined (pieces xs) ≡ xs
joined_pieces [] = refl
joined_pieces (x ∷ xs) = joined_cond (eqb x 10) x xs refl (joined_pieces xs)

lack_onto : (x : ℕ) (ps : List (List ℕ)) → eqb x 10 ≡ false → AllLack ps → AllLack (onto_first x ps)
lack_onto x [] e h = (rw e refl, tt)
lack_onto x (p ∷ ps) e h = (rw e h.0, h.1)

lack_cond : (t : Bool) (x : ℕ) (ps : List (List ℕ)) → t ≡ eqb x 10 → AllLack ps → AllLack (cond t ([] ∷ ps) (onto_first x ps))
lack_cond true x ps e h = (refl, h)
lack_cond false x ps e h = lack_onto x ps (sym e) h

pub pieces_lack : (xs : List ℕ) → AllLack (pieces xs)
pieces_lack [] = (refl, tt)
pieces_lack (x ∷ xs) = lack_cond (eqb x 10) x (pieces xs) refl (pieces_lack xs)

not_true : (a : Bool) → not a ≡ true → a ≡ false
not_true true e = absurd cc
not_true false e = refl

pub pieces_line : (t rest : List ℕ) → lacks 10 t ≡ true → pieces (t ++ 10 ∷ rest) ≡ t ∷ pieces rest
pieces_line [] rest h = refl
pieces_line (x ∷ t) rest h =
    let p = both_true (not (eqb x 10)) (lacks 10 t) h in
    rw (not_true (eqb x 10) p.0, pieces_line t rest p.1) refl

pub pieces_last : (t : List ℕ) → lacks 10 t ≡ true → pieces t ≡ t ∷ []
pieces_last [] h = refl
pieces_last (x ∷ t) h =
    let p = both_true (not (eqb x 10)) (lacks 10 t) h in
    rw (not_true (eqb x 10) p.0, pieces_last t p.1) refl

same_line : (a b x y : List ℕ) → lacks 10 a ≡ true → lacks 10 b ≡ true → a ++ 10 ∷ x ≡ b ++ 10 ∷ y → a ≡ b
same_line a b x y h k e = sym (before_at 10 a x h) ∙ ap (before 10) e ∙ before_at 10 b y k

lacks_tail : (b y : List ℕ) → lacks 10 (b ++ 10 ∷ y) ≡ true → ⊥
lacks_tail [] y h = absurd cc
lacks_tail (x ∷ b) y h = lacks_tail b y (both_true (not (eqb x 10)) (lacks 10 (b ++ 10 ∷ y)) h).1

no_line : (a b y : List ℕ) → lacks 10 a ≡ true → a ≢ b ++ 10 ∷ y
no_line a b y h e = lacks_tail b y (ap (lacks 10) (sym e) ∙ h)

-- ---- one line

pub read_line : {S I : Type 0} (g : Grammar S I) (line_of : List ℕ → Option I) (s : S) (k : ℕ) (line : List ℕ) (ps : List (List ℕ)) → IsSome ps
    → read_on g line_of s k (line ∷ ps) ≡ or_bad_line k (step g line_of s line) (λ s. read_on g line_of s (k + 1) ps)
read_line g line_of s k line [] h = absurd h
read_line g line_of s k line (p ∷ ps) h = refl

pub record Steps {S I : Type 0} (g : Grammar S I) (s : S) (t : List ℕ) (to : S) : Type 0 where
  pub line : I
  pub is_line : g.is_line line ≡ true
  pub allowed : g.allows s line ≡ true
  pub text_is : t ≡ g.text line
  pub to_is : g.after s line ≡ to

pub step_takes : {S I : Type 0} (g : Grammar S I) (line_of : List ℕ → Option I) → IsExact g line_of → (s : S) (t : List ℕ) (to : S) → step g line_of s t ≡ Some to → Steps g s t to
step_takes g line_of exact s t to e =
    let a = bind_some (line_of t) (λ i. cond (g.allows s i) (Some (g.after s i)) None) to e in
    let l = exact.takes t a.0 a.1 in
    let w = went (g.allows s a.0) (Some (g.after s a.0)) to a.2 in
    record { line = a.0; is_line = l.0; allowed = w.0; text_is = l.1; to_is = some_is (g.after s a.0) to w.1 }

pub step_again : {S I : Type 0} (g : Grammar S I) (line_of : List ℕ → Option I) → IsExact g line_of → (s : S) (i : I) → g.is_line i ≡ true → g.allows s i ≡ true → step g line_of s (g.text i) ≡ Some (g.after s i)
step_again g line_of exact s i is allowed = rw (exact.again i is, allowed) refl

-- ---- all lines

or_bad_line_ok : {S : Type 0} (k : ℕ) (r : Option S) (f : S → Result S ℕ) (end : S) → or_bad_line k r f ≡ Ok end → (s : S) × (r ≡ Some s) × (f s ≡ Ok end)
or_bad_line_ok k None f end e = absurd cc
or_bad_line_ok k (Some s) f end e = (s, refl, e)

ended_ok : {S : Type 0} (t : Bool) (s end : S) (k : ℕ) → cond t (Ok s) (Err k) ≡ Ok end → (t ≡ true) × (s ≡ end)
ended_ok true s end k e = (refl, cc)
ended_ok false s end k e = absurd cc

no_ok : {S : Type 0} (k : ℕ) (end : S) → (Err k ≡ Ok end) → ⊥
no_ok k end e = absurd cc

run_more : {S I : Type 0} (g : Grammar S I) (s to end : S) (i : I) (is : List I) → g.is_line i ≡ true → g.allows s i ≡ true → g.after s i ≡ to → run g to is ≡ Some end → run g s (i ∷ is) ≡ Some end
run_more g s to end i is l a e r = rw (l, a, e) r

add_line : {S I : Type 0} (g : Grammar S I) (s to end : S) (t rest : List ℕ) → Steps g s t to → Reads g to rest end → Reads g s (t ++ 10 ∷ rest) end
add_line g s to end t rest st r = record {
  lines = st.line ∷ r.lines;
  run_is = run_more g s to end st.line r.lines st.is_line st.allowed st.to_is r.run_is;
  ends = r.ends;
  text_is = ap (λ (x : List ℕ). x ++ 10 ∷ rest) st.text_is ∙ ap (λ (x : List ℕ). g.text st.line ++ 10 ∷ x) r.text_is;
}

read_last : {S I : Type 0} (g : Grammar S I) (s end : S) (last : List ℕ) (k : ℕ) → cond (eqb (length last) 0 && g.is_ended s) (Ok s) (Err k) ≡ Ok end → Reads g s last end
read_last g s end last k e =
    let o = ended_ok (eqb (length last) 0 && g.is_ended s) s end k e in
    let b = both_true (eqb (length last) 0) (g.is_ended s) o.0 in
    record { lines = []; run_is = ap (λ x. Some x) o.1; ends = ap g.is_ended (sym o.1) ∙ b.1; text_is = nil_from_length last (eqb-true (length last) 0 b.0) }

read_takes_on : {S I : Type 0} (g : Grammar S I) (line_of : List ℕ → Option I) → IsExact g line_of → (ps : List (List ℕ)) (s end : S) (k : ℕ) → read_on g line_of s k ps ≡ Ok end → Reads g s (joined ps) end
read_takes_on g line_of exact [] s end k e = absurd (no_ok k end e)
read_takes_on g line_of exact (last ∷ []) s end k e = read_last g s end last k e
read_takes_on g line_of exact (line ∷ piece ∷ more) s end k e =
    let o = or_bad_line_ok k (step g line_of s line) (λ s. read_on g line_of s (k + 1) (piece ∷ more)) end e in
    add_line g s o.0 end line (joined (piece ∷ more)) (step_takes g line_of exact s line o.0 o.1) (read_takes_on g line_of exact (piece ∷ more) o.0 end (k + 1) o.2)

-- What is read is lines, each allowed by those before it.
pub read_takes : {S I : Type 0} (g : Grammar S I) (line_of : List ℕ → Option I) → IsExact g line_of → (s end : S) (bytes : List ℕ) → read_on g line_of s 1 (pieces bytes) ≡ Ok end → Reads g s bytes end
read_takes g line_of exact s end bytes e = subst (λ (x : List ℕ). Reads g s x end) (joined_pieces bytes) (read_takes_on g line_of exact (pieces bytes) s end 1 e)

pub run_cases : {S I : Type 0} (g : Grammar S I) (s end : S) (i : I) (is : List I) → run g s (i ∷ is) ≡ Some end → (g.is_line i ≡ true) × (g.allows s i ≡ true) × (run g (g.after s i) is ≡ Some end)
run_cases g s end i is e =
    let w = went (g.is_line i && g.allows s i) (run g (g.after s i) is) end e in
    let b = both_true (g.is_line i) (g.allows s i) w.0 in
    (b.0, b.1, w.1)

-- Allowed lines are read.
pub read_front : {S I : Type 0} (g : Grammar S I) (line_of : List ℕ → Option I) → IsExact g line_of → (good : List I) (s state : S) (rest : List ℕ) (k : ℕ)
    → run g s good ≡ Some state → read_on g line_of s k (pieces (text_of g good ++ rest)) ≡ read_on g line_of state (k + length good) (pieces rest)
read_front g line_of exact [] s state rest k e =
    let zero_more : k ≡ k + 0 = omega arith in
    ap (λ x. read_on g line_of x k (pieces rest)) (some_is s state e) ∙ ap (λ (n : ℕ). read_on g line_of state n (pieces rest)) zero_more
read_front g line_of exact (i ∷ is) s state rest k e =
    let r = run_cases g s state i is e in
    let regroup : text_of g (i ∷ is) ++ rest ≡ g.text i ++ 10 ∷ (text_of g is ++ rest) = append_assoc (g.text i) (10 ∷ text_of g is) rest in
    let cut : pieces (text_of g (i ∷ is) ++ rest) ≡ g.text i ∷ pieces (text_of g is ++ rest) = ap pieces regroup ∙ pieces_line (g.text i) (text_of g is ++ rest) (exact.one_line i r.0) in
    let first : read_on g line_of s k (g.text i ∷ pieces (text_of g is ++ rest)) ≡ read_on g line_of (g.after s i) (k + 1) (pieces (text_of g is ++ rest)) =
    read_line g line_of s k (g.text i) (pieces (text_of g is ++ rest)) (pieces_some (text_of g is ++ rest))
    ∙ ap (λ x. or_bad_line k x (λ s. read_on g line_of s (k + 1) (pieces (text_of g is ++ rest)))) (step_again g line_of exact s i r.0 r.1) in
    let count : k + 1 + length is ≡ k + length (i ∷ is) = omega arith in
    ap (read_on g line_of s k) cut ∙ first ∙ read_front g line_of exact is (g.after s i) state rest (k + 1) r.2 ∙ ap (λ (n : ℕ). read_on g line_of state n (pieces rest)) count

pub read_again : {S I : Type 0} (g : Grammar S I) (line_of : List ℕ → Option I) → IsExact g line_of → (s end : S) (bytes : List ℕ) → Reads g s bytes end → read_on g line_of s 1 (pieces bytes) ≡ Ok end
read_again g line_of exact s end bytes r =
    let whole : bytes ≡ text_of g r.lines ++ [] = r.text_is ∙ sym (append-nil (text_of g r.lines)) in
    ap (λ (x : List ℕ). read_on g line_of s 1 (pieces x)) whole ∙ read_front g line_of exact r.lines s end [] 1 r.run_is ∙ rw r.ends refl

-- ---- the first line that is not allowed

abbrev bad_at : {S : Type 0} → ℕ → Result S ℕ
bad_at k = Err k

err_is : {S : Type 0} (k j : ℕ) → bad_at {S = S} k ≡ bad_at {S = S} j → k ≡ j
err_is k j e = cc

pub record BadFrom {S I : Type 0} (g : Grammar S I) (s : S) (bytes : List ℕ) (k j : ℕ) : Type 0 where
  pub at : ℕ
  pub bad : IsFirstBad g s bytes at
  pub count : at + k ≡ j + 1

stuck_here : {S I : Type 0} (g : Grammar S I) (s : S) (rest : List ℕ) (k j : ℕ) → k ≡ j
    → ((i : I) (more : List ℕ) → g.is_line i ≡ true → g.allows s i ≡ true → rest ≢ g.text i ++ 10 ∷ more) → (g.is_ended s ≡ true → rest ≢ []) → BadFrom g s rest k j
stuck_here g s rest k j e stuck open_yet = record {
  at = 1;
  bad = record { good = []; count = refl; state = s; run_is = refl; rest = rest; text_is = refl; stuck = stuck; open_yet = open_yet };
  count = omega arith;
}

absurd_bool : false ≡ true → ⊥
absurd_bool e = absurd cc

not_both : {S I : Type 0} (g : Grammar S I) (s : S) (last : List ℕ) → false ≡ (eqb (length last) 0 && g.is_ended s) → g.is_ended s ≡ true → last ≡ [] → ⊥
not_both g s last e ended empty = absurd_bool (e ∙ rw (ended, empty) refl)

not_nil : (a b : List ℕ) → a ++ 10 ∷ b ≡ [] → ⊥
not_nil [] b e = absurd cc
not_nil (x ∷ a) b e = absurd cc

last_bad : {S I : Type 0} (g : Grammar S I) (s : S) (last : List ℕ) (k j : ℕ) (t : Bool) → t ≡ (eqb (length last) 0 && g.is_ended s) → lacks 10 last ≡ true → cond t (Ok s) (Err k) ≡ Err j → BadFrom g s last k j
last_bad g s last k j true e h r = absurd cc
last_bad {S = S} g s last k j false e h r =
    stuck_here g s last k j (err_is {S = S} k j r) (λ i more is allowed. no_line last (g.text i) more h) (λ ended empty. not_both g s last e ended empty)

add_bad : {S I : Type 0} (g : Grammar S I) (s to : S) (t rest : List ℕ) (k j : ℕ) → Steps g s t to → BadFrom g to rest (k + 1) j → BadFrom g s (t ++ 10 ∷ rest) k j
add_bad g s to t rest k j st b = record {
  at = b.at + 1;
  bad = record {
    good = st.line ∷ b.bad.good;
    count = omega (arith, b.bad.count);
    state = b.bad.state;
    run_is = run_more g s to b.bad.state st.line b.bad.good st.is_line st.allowed st.to_is b.bad.run_is;
    rest = b.bad.rest;
    text_is = ap (λ (x : List ℕ). x ++ 10 ∷ rest) st.text_is ∙ ap (λ (x : List ℕ). g.text st.line ++ 10 ∷ x) b.bad.text_is ∙ sym (append_assoc (g.text st.line) (10 ∷ text_of g b.bad.good) b.bad.rest);
    stuck = b.bad.stuck;
    open_yet = b.bad.open_yet;
  };
  count = omega (arith, b.count);
}

none_some : {A : Type 0} (r : Option A) (x : A) → None ≡ r → r ≡ Some x → ⊥
none_some None x n e = absurd cc
none_some (Some y) x n e = absurd cc

line_bad : {S I : Type 0} (g : Grammar S I) (line_of : List ℕ → Option I) → IsExact g line_of → (s : S) (line : List ℕ) (ps : List (List ℕ)) (k j : ℕ) (r : Option S)
    → lacks 10 line ≡ true → r ≡ step g line_of s line → ((to : S) → read_on g line_of to (k + 1) ps ≡ Err j → BadFrom g to (joined ps) (k + 1) j)
    → or_bad_line k r (λ s. read_on g line_of s (k + 1) ps) ≡ Err j → BadFrom g s (line ++ 10 ∷ joined ps) k j
line_bad {S = S} g line_of exact s line ps k j None h e more bad =
    stuck_here g s (line ++ 10 ∷ joined ps) k j (err_is {S = S} k j bad)
    (λ i rest is allowed same.
    let line_is : line ≡ g.text i = same_line line (g.text i) (joined ps) rest h (exact.one_line i is) same in
    none_some (step g line_of s line) (g.after s i) e (ap (step g line_of s) line_is ∙ step_again g line_of exact s i is allowed))
    (λ ended empty. not_nil line (joined ps) empty)
line_bad g line_of exact s line ps k j (Some to) h e more bad =
    add_bad g s to line (joined ps) k j (step_takes g line_of exact s line to (sym e)) (more to bad)

read_bad_on : {S I : Type 0} (g : Grammar S I) (line_of : List ℕ → Option I) → IsExact g line_of → (ps : List (List ℕ)) (s : S) (k j : ℕ) → IsSome ps → AllLack ps → read_on g line_of s k ps ≡ Err j → BadFrom g s (joined ps) k j
read_bad_on g line_of exact [] s k j some h e = absurd some
read_bad_on g line_of exact (last ∷ []) s k j some h e = last_bad g s last k j (eqb (length last) 0 && g.is_ended s) refl h.0 e
read_bad_on g line_of exact (line ∷ piece ∷ more) s k j some h e =
    line_bad g line_of exact s line (piece ∷ more) k j (step g line_of s line) h.0 refl (λ to bad. read_bad_on g line_of exact (piece ∷ more) to (k + 1) j tt h.1 bad) e

-- The line that is answered is the first that is not allowed.
pub read_bad : {S I : Type 0} (g : Grammar S I) (line_of : List ℕ → Option I) → IsExact g line_of → (s : S) (bytes : List ℕ) (j : ℕ) → read_on g line_of s 1 (pieces bytes) ≡ Err j → IsFirstBad g s bytes j
read_bad g line_of exact s bytes j e =
    let b = read_bad_on g line_of exact (pieces bytes) s 1 j (pieces_some bytes) (pieces_lack bytes) e in
    let at_is : b.at ≡ j = omega (arith, b.count) in
    subst (λ (n : ℕ). IsFirstBad g s bytes n) at_is (subst (λ (x : List ℕ). IsFirstBad g s x b.at) (joined_pieces bytes) b.bad)

-- The first line that is not allowed is answered.
last_stuck : {S I : Type 0} (g : Grammar S I) (s : S) (last : List ℕ) (k : ℕ) (t : Bool) → t ≡ (eqb (length last) 0 && g.is_ended s) → (g.is_ended s ≡ true → last ≢ []) → cond t (Ok s) (Err k) ≡ Err k
last_stuck g s last k false e open_yet = refl
last_stuck g s last k true e open_yet =
    let b = both_true (eqb (length last) 0) (g.is_ended s) (sym e) in
    absurd (open_yet b.1 (nil_from_length last (eqb-true (length last) 0 b.0)))

line_stuck : {S I : Type 0} (g : Grammar S I) (line_of : List ℕ → Option I) → IsExact g line_of → (s : S) (line : List ℕ) (ps : List (List ℕ)) (k : ℕ) (r : Option S) → r ≡ step g line_of s line
    → ((i : I) (more : List ℕ) → g.is_line i ≡ true → g.allows s i ≡ true → line ++ 10 ∷ joined ps ≢ g.text i ++ 10 ∷ more) → or_bad_line k r (λ s. read_on g line_of s (k + 1) ps) ≡ Err k
line_stuck g line_of exact s line ps k None e stuck = refl
line_stuck g line_of exact s line ps k (Some to) e stuck =
    let st = step_takes g line_of exact s line to (sym e) in
    absurd (stuck st.line (joined ps) st.is_line st.allowed (ap (λ (x : List ℕ). x ++ 10 ∷ joined ps) st.text_is))

stuck_reads : {S I : Type 0} (g : Grammar S I) (line_of : List ℕ → Option I) → IsExact g line_of → (s : S) (ps : List (List ℕ)) (k : ℕ)
    → IsSome ps → ((i : I) (more : List ℕ) → g.is_line i ≡ true → g.allows s i ≡ true → joined ps ≢ g.text i ++ 10 ∷ more) → (g.is_ended s ≡ true → joined ps ≢ []) → read_on g line_of s k ps ≡ Err k
stuck_reads g line_of exact s [] k some stuck open_yet = absurd some
stuck_reads g line_of exact s (last ∷ []) k some stuck open_yet = last_stuck g s last k (eqb (length last) 0 && g.is_ended s) refl open_yet
stuck_reads g line_of exact s (line ∷ piece ∷ more) k some stuck open_yet =
    line_stuck g line_of exact s line (piece ∷ more) k (step g line_of s line) refl stuck

pub bad_again : {S I : Type 0} (g : Grammar S I) (line_of : List ℕ → Option I) → IsExact g line_of → (s : S) (bytes : List ℕ) (k : ℕ) → IsFirstBad g s bytes k → read_on g line_of s 1 (pieces bytes) ≡ Err k
bad_again {I = I} g line_of exact s bytes k b =
    let at : 1 + length b.good ≡ k = omega (arith, b.count) in
    let stuck : (i : I) (more : List ℕ) → g.is_line i ≡ true → g.allows b.state i ≡ true → joined (pieces b.rest) ≢ g.text i ++ 10 ∷ more = λ i more is allowed same. b.stuck i more is allowed (sym (joined_pieces b.rest) ∙ same) in
    let open_yet : g.is_ended b.state ≡ true → joined (pieces b.rest) ≢ [] = λ ended same. b.open_yet ended (sym (joined_pieces b.rest) ∙ same) in
    ap (λ (x : List ℕ). read_on g line_of s 1 (pieces x)) b.text_is ∙ read_front g line_of exact b.good s b.state b.rest 1 b.run_is
    ∙ ap (λ (n : ℕ). read_on g line_of b.state n (pieces b.rest)) at
    ∙ stuck_reads g line_of exact b.state (pieces b.rest) k (pieces_some b.rest) stuck open_yet

-- ---- a loop that looks for an LF

pub line_found : (text : List ℕ) (i : ℕ) → i < length text → lacks 10 (take i text) ≡ true → get_or text i 0 ≡ 10 → pieces text ≡ take i text ∷ pieces (drop (i + 1) text)
line_found text i lt h e =
    let rest : drop i text ≡ 10 ∷ drop (i + 1) text = drop-cons text i 0 lt ∙ ap (λ (x : ℕ). x ∷ drop (suc i) text) e ∙ ap (λ (n : ℕ). 10 ∷ drop n text) (sym (add-one i)) in
    let parts : text ≡ take i text ++ 10 ∷ drop (i + 1) text = sym (take-append-drop i text) ∙ ap (λ (t : List ℕ). take i text ++ t) rest in
    ap pieces parts ∙ pieces_line (take i text) (drop (i + 1) text) h

pub lacks_more : (text : List ℕ) (i : ℕ) → i < length text → lacks 10 (take i text) ≡ true → get_or text i 0 ≢ 10 → lacks 10 (take (i + 1) text) ≡ true
lacks_more text i lt h other =
    let test : not (eqb (get_or text i 0) 10) ≡ true = grind (arith, nat_tests) in
    rw (take_more text i 0 lt) (lacks_append 10 (take i text) (get_or text i 0 ∷ []) h (rw test refl))

pub line_none : (text : List ℕ) (i : ℕ) → length text ≤ i → lacks 10 (take i text) ≡ true → pieces text ≡ text ∷ []
line_none text i le h =
    let all : take i text ≡ text = take_all i text le in
    pieces_last text (ap (lacks 10) (sym all) ∙ h)
