-- Bytes that are read as rows are the text of these, which are in range.
use Rattle.std.proofs.Common.{◌≡◌, ℕ, suc, ◌+◌, Bool, true, false, cond, eqb, List, [], ◌∷◌, ◌++◌, length, All, Result, Ok, Err, codes, refl, sym, ap, subst, ◌∙◌, append_assoc, arith}
use Rattle.std.specs.Str.{bytes_eq}
use Rattle.std.proofs.lemmas.Bool.{eqb-true}
use Rattle.std.proofs.lemmas.List.{append-nil, nil_from_length}
use Rattle.std.proofs.lemmas.Slice.Eq.{bytes_eq-Decides}
use Rattle.history_model.specs.Game.{Payoffs}
use Rattle.texts.specs.Grammar.{onto_first, pieces}
use Rattle.texts.proofs.GrammarLaws.{joined, joined_pieces}
use Rattle.rota_rows.specs.declared.row.RotaRow.{RotaRow}
use Rattle.rota_rows.proofs.FieldLaws.{Below}
use Rattle.checkpoint.specs.declared.expected.ExpectedMatch.{ExpectedMatch}
use Rattle.checkpoint.specs.declared.fault.Fault.{Fault}
use Rattle.checkpoint.specs.declared.fault.Fault.TheVariants as faults
use Rattle.checkpoint.specs.Checkpoints.{behind_head, checkpoint_of, end_at, is_all, line_at, matches_at, next_match, row_at}
use Rattle.checkpoint.specs.Exact.{AreRowsFor, IsExpected, IsKnown, are_lines, checkpoint_text, last_or}
use Rattle.checkpoint.specs.Steps.{◌>>=◌, checked}
use Rattle.checkpoint.specs.Texts.{row_line, rows_text, score_line}
use Rattle.checkpoint.proofs.RowLaws.{ok_is, row_range, row_spelled_back}

-- ---- steps

ok_bind : {A B : Type 0} (r : Result A Fault) (f : A → Result B Fault) (y : B) → (r >>= f) ≡ Ok y → (x : A) × (r ≡ Ok x) × (f x ≡ Ok y)
ok_bind (Ok x) f y e = (x, refl, e)
ok_bind (Err fault) f y e = absurd cc

ok_checked : {A : Type 0} (fault : Fault) (t : Bool) (x y : A) → checked fault t x ≡ Ok y → (t ≡ true) × (x ≡ y)
ok_checked fault true x y e = (refl, ok_is x y e)
ok_checked fault false x y e = absurd cc

same_bytes : (a b : List ℕ) → bytes_eq a b ≡ true → a ≡ b
same_bytes a b h = (bytes_eq-Decides a b).0 h

-- ---- lines

abbrev Lined : Type 0
Lined = List ℕ × List (List ℕ)

abbrev lined : Lined → List ℕ
lined x = x.0 ++ 10 ∷ joined x.1

line_taken : (k : ℕ) (ps : List (List ℕ)) (x : Lined) → line_at k ps ≡ Ok x → joined ps ≡ lined x
line_taken k [] x e = absurd cc
line_taken k (p ∷ []) x e = absurd cc
line_taken k (p ∷ q ∷ more) x e = ap lined (ok_is (p, q ∷ more) x e)

-- ---- one match

abbrev Matched : Type 0
Matched = RotaRow × List (List ℕ)

-- a line that shows where the match stands, and then the one of its scores
record NextTaken (game : Payoffs) (offset : ℕ) (pair : ExpectedMatch) (m k : ℕ) (ps : List (List ℕ)) (x : Matched) : Type 0 where
  line : List ℕ
  row : row_at pair m k line ≡ Ok x.0
  text : joined ps ≡ line ++ 10 ∷ (score_line game offset m x.0 ++ 10 ∷ joined x.1)

two_lines : (ps rest more : List (List ℕ)) (line second score : List ℕ) → joined ps ≡ line ++ 10 ∷ joined rest → joined rest ≡ second ++ 10 ∷ joined more → second ≡ score
    → joined ps ≡ line ++ 10 ∷ (score ++ 10 ∷ joined more)
two_lines ps rest more line second score first last is =
    first ∙ ap (λ (u : List ℕ). line ++ 10 ∷ u) (last ∙ ap (λ (u : List ℕ). u ++ 10 ∷ joined more) is)

next_taken : (game : Payoffs) (offset : ℕ) (pair : ExpectedMatch) (m k : ℕ) (ps : List (List ℕ)) (x : Matched) → next_match game offset pair m k ps ≡ Ok x → NextTaken game offset pair m k ps x
next_taken game offset pair m k ps x e =
    let scored : RotaRow → Lined → Result (List (List ℕ)) Fault = λ row y. checked (faults.BadLine (k + 1)) (bytes_eq y.0 (score_line game offset m row)) y.1 in
    let with_score : RotaRow → Lined → Result Matched Fault = λ row y. scored row y >>= λ rest. Ok (row, rest) in
    let with_row : Lined → RotaRow → Result Matched Fault = λ z row. line_at (k + 1) z.1 >>= with_score row in
    let a = ok_bind (line_at k ps) (λ z. row_at pair m k z.0 >>= with_row z) x e in
    let b = ok_bind (row_at pair m k a.0.0) (with_row a.0) x a.2 in
    let c = ok_bind (line_at (k + 1) a.0.1) (with_score b.0) x b.2 in
    let d = ok_bind (scored b.0 c.0) (λ rest. Ok (b.0, rest)) x c.2 in
    let score : List ℕ = score_line game offset m b.0 in
    let t = ok_checked (faults.BadLine (k + 1)) (bytes_eq c.0.0 score) c.0.1 d.0 d.1 in
    let last : joined a.0.1 ≡ c.0.0 ++ 10 ∷ joined d.0 = line_taken (k + 1) a.0.1 c.0 c.1 ∙ ap (λ (u : List (List ℕ)). c.0.0 ++ 10 ∷ joined u) t.1 in
    let taken : NextTaken game offset pair m k ps (b.0, d.0) =
    record { line = a.0.0; row = b.1; text = two_lines ps a.0.1 d.0 a.0.0 c.0.0 score (line_taken k ps a.0 a.1) last (same_bytes c.0.0 score t.0) } in
    subst (NextTaken game offset pair m k ps) (ok_is (b.0, d.0) x d.2) taken

-- ---- the end

all_taken : (ps : List (List ℕ)) → is_all ps ≡ true → joined ps ≡ []
all_taken [] e = absurd cc
all_taken (p ∷ []) e = nil_from_length p (eqb-true (length p) 0 e)
all_taken (p ∷ q ∷ more) e = absurd cc

end_taken : (k : ℕ) (ps : List (List ℕ)) (rows : List RotaRow) → end_at k ps ≡ Ok rows → (rows ≡ []) × (joined ps ≡ codes "end" ++ 10 ∷ [])
end_taken k ps rows e =
    let none : List RotaRow = [] in
    let at_end : List (List ℕ) → Result (List RotaRow) Fault = λ rest. checked (faults.BadLine (k + 1)) (is_all rest) none in
    let a = ok_bind (line_at k ps) (λ x. checked (faults.BadLine k) (bytes_eq x.0 (codes "end")) x.1 >>= at_end) rows e in
    let b = ok_bind (checked (faults.BadLine k) (bytes_eq a.0.0 (codes "end")) a.0.1) at_end rows a.2 in
    let t = ok_checked (faults.BadLine k) (bytes_eq a.0.0 (codes "end")) a.0.1 b.0 b.1 in
    let u = ok_checked (faults.BadLine (k + 1)) (is_all b.0) none rows b.2 in
    let rest : joined a.0.1 ≡ [] = ap joined t.1 ∙ all_taken b.0 u.0 in
    (sym u.1, line_taken k ps a.0 a.1 ∙ ap (λ (v : List ℕ). v ++ 10 ∷ joined a.0.1) (same_bytes a.0.0 (codes "end") t.0) ∙ ap (λ (v : List ℕ). codes "end" ++ 10 ∷ v) rest)

-- ---- all matches

pub all_front : {X : Type 0} (P : X → Type 0) (x : X) (xs : List X) → All P (x ∷ xs) → P x
all_front P x xs h = h 0 x (omega arith)

pub all_rest : {X : Type 0} (P : X → Type 0) (x : X) (xs : List X) → All P (x ∷ xs) → All P xs
all_rest P x xs h = λ k d within. h (suc k) d (omega (arith, within))

-- the first match, and those behind it
record MoreTaken (game : Payoffs) (offset : ℕ) (pair : ExpectedMatch) (pairs : List ExpectedMatch) (m k : ℕ) (ps : List (List ℕ)) (rows : List RotaRow) : Type 0 where
  row : RotaRow
  rest : List (List ℕ)
  next : NextTaken game offset pair m k ps (row, rest)
  more : List RotaRow
  behind : matches_at game offset pairs (m + 1) (k + 2) rest ≡ Ok more
  are : (row ∷ more) ≡ rows

more_taken : (game : Payoffs) (offset : ℕ) (pair : ExpectedMatch) (pairs : List ExpectedMatch) (m k : ℕ) (ps : List (List ℕ)) (rows : List RotaRow)
    → matches_at game offset (pair ∷ pairs) m k ps ≡ Ok rows → MoreTaken game offset pair pairs m k ps rows
more_taken game offset pair pairs m k ps rows e =
    let with_rows : Matched → Result (List RotaRow) Fault = λ x. matches_at game offset pairs (m + 1) (k + 2) x.1 >>= λ more. Ok (x.0 ∷ more) in
    let a = ok_bind (next_match game offset pair m k ps) with_rows rows e in
    let b = ok_bind (matches_at game offset pairs (m + 1) (k + 2) a.0.1) (λ more. Ok (a.0.0 ∷ more)) rows a.2 in
    record { row = a.0.0; rest = a.0.1; next = next_taken game offset pair m k ps a.0 a.1; more = b.0; behind = b.1; are = ok_is (a.0.0 ∷ b.0) rows b.2 }

matches_range : (game : Payoffs) (offset : ℕ) (pairs : List ExpectedMatch) (m k : ℕ) (ps : List (List ℕ)) (rows : List RotaRow)
    → matches_at game offset pairs m k ps ≡ Ok rows → AreRowsFor pairs rows
matches_range game offset [] m k ps rows e = subst (AreRowsFor []) (sym (end_taken k ps rows e).0) tt
matches_range game offset (pair ∷ pairs) m k ps rows e =
    let v = more_taken game offset pair pairs m k ps rows e in
    subst (AreRowsFor (pair ∷ pairs)) v.are (row_range pair m k v.next.line v.row v.next.row, matches_range game offset pairs (m + 1) (k + 2) v.rest v.more v.behind)

matches_text : Below → (game : Payoffs) (offset : ℕ) (pairs : List ExpectedMatch) (m k : ℕ) (ps : List (List ℕ)) (rows : List RotaRow)
    → All IsExpected pairs → matches_at game offset pairs m k ps ≡ Ok rows → joined ps ≡ rows_text game offset m pairs rows
matches_text l game offset [] m k ps rows each e = (end_taken k ps rows e).1
matches_text l game offset (pair ∷ pairs) m k ps rows each e =
    let v = more_taken game offset pair pairs m k ps rows e in
    let line : v.next.line ≡ row_line pair m v.row = row_spelled_back l pair m k v.next.line v.row (all_front IsExpected pair pairs each) v.next.row in
    let more : joined v.rest ≡ rows_text game offset (m + 1) pairs v.more = matches_text l game offset pairs (m + 1) (k + 2) v.rest v.more (all_rest IsExpected pair pairs each) v.behind in
    v.next.text
    ∙ ap (λ (u : List ℕ). u ++ 10 ∷ (score_line game offset m v.row ++ 10 ∷ joined v.rest)) line
    ∙ ap (λ (u : List ℕ). row_line pair m v.row ++ 10 ∷ (score_line game offset m v.row ++ 10 ∷ u)) more
    ∙ ap (λ (u : List RotaRow). rows_text game offset m (pair ∷ pairs) u) v.are

-- ---- the head

-- its lines, without what stands behind the last LF
abbrev pub lines_of : List (List ℕ) → List ℕ
lines_of (own ∷ piece ∷ more) = own ++ 10 ∷ lines_of (piece ∷ more)
lines_of _ = []

abbrev Behind : Type 0
Behind = ℕ × List (List ℕ)

head_taken : (hs : List (List ℕ)) (k : ℕ) (ps : List (List ℕ)) (x : Behind) → behind_head hs k ps ≡ Ok x → joined ps ≡ lines_of hs ++ joined x.1
head_taken [] k ps x e = ap (λ (y : Behind). joined y.1) (ok_is (k, ps) x e)
head_taken (own ∷ []) k ps x e = ap (λ (y : Behind). joined y.1) (ok_is (k, ps) x e)
head_taken (own ∷ piece ∷ more) k ps x e =
    let on : List (List ℕ) → Result Behind Fault = λ rest. behind_head (piece ∷ more) (k + 1) rest in
    let a = ok_bind (line_at k ps) (λ z. checked (faults.BadLine k) (bytes_eq z.0 own) z.1 >>= on) x e in
    let b = ok_bind (checked (faults.BadLine k) (bytes_eq a.0.0 own) a.0.1) on x a.2 in
    let t = ok_checked (faults.BadLine k) (bytes_eq a.0.0 own) a.0.1 b.0 b.1 in
    let rest : joined a.0.1 ≡ lines_of (piece ∷ more) ++ joined x.1 = ap joined t.1 ∙ head_taken (piece ∷ more) (k + 1) b.0 x b.2 in
    line_taken k ps a.0 a.1
    ∙ ap (λ (u : List ℕ). u ++ 10 ∷ joined a.0.1) (same_bytes a.0.0 own t.0)
    ∙ ap (λ (u : List ℕ). own ++ 10 ∷ u) rest
    ∙ sym (append_assoc own (10 ∷ lines_of (piece ∷ more)) (joined x.1))

-- the piece behind the last LF
abbrev last_of : List (List ℕ) → List ℕ
last_of [] = []
last_of (last ∷ []) = last
last_of (own ∷ piece ∷ more) = last_of (piece ∷ more)

joined_parts : (hs : List (List ℕ)) → joined hs ≡ lines_of hs ++ last_of hs
joined_parts [] = refl
joined_parts (last ∷ []) = refl
joined_parts (own ∷ piece ∷ more) =
    ap (λ (u : List ℕ). own ++ 10 ∷ u) (joined_parts (piece ∷ more)) ∙ sym (append_assoc own (10 ∷ lines_of (piece ∷ more)) (last_of (piece ∷ more)))

-- some LF, and nothing behind the last
abbrev Ends : List (List ℕ) → Type 0
Ends [] = ⊥
Ends (last ∷ []) = ⊥
Ends (own ∷ piece ∷ more) = last_of (piece ∷ more) ≡ []

ends_last : (hs : List (List ℕ)) → Ends hs → last_of hs ≡ []
ends_last [] h = absurd h
ends_last (last ∷ []) h = absurd h
ends_last (own ∷ piece ∷ more) h = h

ends_more : (t : Bool) (x : ℕ) (hs : List (List ℕ)) → Ends hs → Ends (cond t ([] ∷ hs) (onto_first x hs))
ends_more t x [] h = absurd h
ends_more t x (last ∷ []) h = absurd h
ends_more true x (own ∷ piece ∷ more) h = h
ends_more false x (own ∷ piece ∷ more) h = h

ends_one : (t : Bool) (x : ℕ) → t ≡ true → Ends (cond t ([] ∷ [] ∷ []) ((x ∷ []) ∷ []))
ends_one true x e = refl
ends_one false x e = absurd cc

ends : (xs : List ℕ) (x : ℕ) → eqb (last_or x xs) 10 ≡ true → Ends (pieces (x ∷ xs))
ends [] x e = ends_one (eqb x 10) x e
ends (y ∷ ys) x e = ends_more (eqb x 10) x (pieces (y ∷ ys)) (ends ys y e)

pub head_lines : (head : List ℕ) → are_lines head ≡ true → lines_of (pieces head) ≡ head
head_lines [] e = refl
head_lines (x ∷ xs) e =
    let none : last_of (pieces (x ∷ xs)) ≡ [] = ends_last (pieces (x ∷ xs)) (ends xs x e) in
    sym (append-nil (lines_of (pieces (x ∷ xs)))) ∙ ap (λ (u : List ℕ). lines_of (pieces (x ∷ xs)) ++ u) (sym none) ∙ sym (joined_parts (pieces (x ∷ xs))) ∙ joined_pieces (x ∷ xs)

-- ---- the whole

pub text_taken : Below → (head : List ℕ) (expected : List ExpectedMatch) (game : Payoffs) (offset : ℕ) (bytes : List ℕ) (rows : List RotaRow)
    → IsKnown head expected game offset → checkpoint_of head expected game offset bytes ≡ Ok rows → bytes ≡ checkpoint_text head expected game offset rows
unfolding checkpoint_of
text_taken l head expected game offset bytes rows known e =
    let a = ok_bind (behind_head (pieces head) 1 (pieces bytes)) (λ x. matches_at game offset expected 0 x.0 x.1) rows e in
    let text : joined a.0.1 ≡ rows_text game offset 0 expected rows = matches_text l game offset expected 0 a.0.0 a.0.1 rows known.each a.2 in
    sym (joined_pieces bytes) ∙ head_taken (pieces head) 1 (pieces bytes) a.0 a.1
    ∙ ap (λ (u : List ℕ). u ++ joined a.0.1) (head_lines head known.whole_lines)
    ∙ ap (λ (u : List ℕ). head ++ u) text

pub range_taken : (head : List ℕ) (expected : List ExpectedMatch) (game : Payoffs) (offset : ℕ) (bytes : List ℕ) (rows : List RotaRow)
    → checkpoint_of head expected game offset bytes ≡ Ok rows → AreRowsFor expected rows
unfolding checkpoint_of
range_taken head expected game offset bytes rows e =
    let a = ok_bind (behind_head (pieces head) 1 (pieces bytes)) (λ x. matches_at game offset expected 0 x.0 x.1) rows e in
    matches_range game offset expected 0 a.0.0 a.0.1 rows a.2
