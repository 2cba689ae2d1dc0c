-- Lines, each in front of what stands behind it.
use Rattle.std.proofs.Common.{◌≡◌, ℕ, suc, ◌+◌, ◌<◌, Bool, true, false, cond, eqb, List, [], ◌∷◌, ◌++◌, length, get_or, drop, Result, Ok, Err, codes, refl, sym, ap, ◌∙◌, add-one, append_assoc, arith}
use Rattle.std.proofs.Math.Seq.{drop-cons}
use Rattle.std.specs.Str.{bytes_eq}
use Rattle.std.proofs.lemmas.Bool.Decides.{nat_tests}
use Rattle.history_model.specs.Game.{Payoffs}
use Rattle.rota_rows.specs.declared.row.RotaRow.{RotaRow}
use Rattle.texts.specs.Grammar.{onto_first, pieces}
use Rattle.texts.proofs.GrammarLaws.{IsSome, pieces_some}
use Rattle.checkpoint.specs.declared.expected.ExpectedMatch.{ExpectedMatch}
use Rattle.checkpoint.specs.declared.fault.Fault.{Fault}
use Rattle.checkpoint.specs.declared.fault.Fault.TheVariants as faults
use Rattle.checkpoint.specs.declared.fault.RotaError.{RotaError}
use Rattle.checkpoint.specs.declared.fault.RotaError.TheVariants as errors
use Rattle.checkpoint.specs.Checkpoints.{behind_head, checkpoint_of, end_at, is_all, line_at, matches_at, next_match}
use Rattle.checkpoint.specs.Errors.{Tells, error_of}
use Rattle.checkpoint.specs.Steps.{◌>>=◌, checked}

-- ---- one line

pub line_front : (k : ℕ) (line : List ℕ) (ps : List (List ℕ)) → IsSome ps → line_at k (line ∷ ps) ≡ Ok (line, ps)
line_front k line [] h = absurd h
line_front k line (p ∷ ps) h = refl

all_cond : (t : Bool) (x : ℕ) (ps : List (List ℕ)) → IsSome ps → is_all (cond t ([] ∷ ps) (onto_first x ps)) ≡ false
all_cond true x [] h = absurd h
all_cond true x (p ∷ ps) h = refl
all_cond false x [] h = absurd h
all_cond false x (p ∷ []) h = grind (arith, nat_tests)
all_cond false x (p ∷ q ∷ ps) h = refl

some_length : (x : ℕ) (xs : List ℕ) → eqb (length (x ∷ xs)) 0 ≡ false
some_length x xs = grind (arith, nat_tests)

-- what stands behind the last LF
pub all_is : (xs : List ℕ) → is_all (pieces xs) ≡ eqb (length xs) 0
all_is [] = refl
all_is (x ∷ xs) = all_cond (eqb x 10) x (pieces xs) (pieces_some xs) ∙ sym (some_length x xs)

-- ---- the end

pub end_past : (k : ℕ) (ps : List (List ℕ)) (line rest : List ℕ) → line_at k ps ≡ Ok (line, pieces rest) → bytes_eq line (codes "end") ≡ true → eqb (length rest) 0 ≡ false
    → end_at k ps ≡ Err (faults.BadLine (k + 1))
end_past k ps line rest is word some = rw (is, word, all_is rest, some) refl

-- ---- the head

head_step : (own : List ℕ) (hs : List (List ℕ)) (k : ℕ) (ps : List (List ℕ)) → IsSome hs
    → behind_head (own ∷ hs) k ps ≡ (line_at k ps >>= λ x. checked (faults.BadLine k) (bytes_eq x.0 own) x.1 >>= λ rest. behind_head hs (k + 1) rest)
head_step own [] k ps h = absurd h
head_step own (p ∷ hs) k ps h = refl

pub head_more : (owed own more : List ℕ) (k : ℕ) (ps rest : List (List ℕ)) (line : List ℕ) → pieces owed ≡ own ∷ pieces more → line_at k ps ≡ Ok (line, rest) → bytes_eq line own ≡ true
    → behind_head (pieces owed) k ps ≡ behind_head (pieces more) (k + 1) rest
head_more owed own more k ps rest line cut is same =
    ap (λ hs. behind_head hs k ps) cut ∙ head_step own (pieces more) k ps (pieces_some more) ∙ rw (is, same) refl

pub head_other : (owed own more : List ℕ) (k : ℕ) (ps rest : List (List ℕ)) (line : List ℕ) → pieces owed ≡ own ∷ pieces more → line_at k ps ≡ Ok (line, rest) → bytes_eq line own ≡ false
    → behind_head (pieces owed) k ps ≡ Err (faults.BadLine k)
head_other owed own more k ps rest line cut is other =
    ap (λ hs. behind_head hs k ps) cut ∙ head_step own (pieces more) k ps (pieces_some more) ∙ rw (is, other) refl

pub head_fault : (owed own more : List ℕ) (k : ℕ) (ps : List (List ℕ)) (fault : Fault) → pieces owed ≡ own ∷ pieces more → line_at k ps ≡ Err fault → behind_head (pieces owed) k ps ≡ Err fault
head_fault owed own more k ps fault cut is = ap (λ hs. behind_head hs k ps) cut ∙ head_step own (pieces more) k ps (pieces_some more) ∙ rw is refl

pub head_end : (owed last : List ℕ) (k : ℕ) (ps : List (List ℕ)) → pieces owed ≡ last ∷ [] → behind_head (pieces owed) k ps ≡ Ok (k, ps)
head_end owed last k ps cut = ap (λ hs. behind_head hs k ps) cut

-- ---- the matches

-- rows behind those that were read
abbrev pub behind_rows : List RotaRow → Result (List RotaRow) Fault → Result (List RotaRow) Fault
behind_rows rows (Ok more) = Ok (rows ++ more)
behind_rows rows (Err fault) = Err fault

abbrev in_front : RotaRow → Result (List RotaRow) Fault → Result (List RotaRow) Fault
in_front row r = r >>= λ rows. Ok (row ∷ rows)

behind_one : (rows : List RotaRow) (row : RotaRow) (r : Result (List RotaRow) Fault) → behind_rows rows (in_front row r) ≡ behind_rows (rows ++ row ∷ []) r
behind_one rows row (Ok more) = ap (λ (x : List RotaRow). Ok x) (sym (append_assoc rows (row ∷ []) more))
behind_one rows row (Err fault) = refl

pub match_more : (game : Payoffs) (offset : ℕ) (rows : List RotaRow) (pair : ExpectedMatch) (pairs : List ExpectedMatch) (m k : ℕ) (ps more : List (List ℕ)) (row : RotaRow)
    → next_match game offset pair m k ps ≡ Ok (row, more)
    → behind_rows rows (matches_at game offset (pair ∷ pairs) m k ps) ≡ behind_rows (rows ++ row ∷ []) (matches_at game offset pairs (m + 1) (k + 2) more)
match_more game offset rows pair pairs m k ps more row is = rw is (behind_one rows row (matches_at game offset pairs (m + 1) (k + 2) more))

pub match_fault : (game : Payoffs) (offset : ℕ) (rows : List RotaRow) (pair : ExpectedMatch) (pairs : List ExpectedMatch) (m k : ℕ) (ps : List (List ℕ)) (fault : Fault)
    → next_match game offset pair m k ps ≡ Err fault → behind_rows rows (matches_at game offset (pair ∷ pairs) m k ps) ≡ Err fault
match_fault game offset rows pair pairs m k ps fault is = rw is refl

-- ---- errors

-- a fault of a step is one of the whole
pub tells_on : {A B : Type 0} (r : Result A Fault) (s : Result B Fault) (error : RotaError) → ((fault : Fault) → r ≡ Err fault → s ≡ Err fault) → Tells r error → Tells s error
tells_on r s (errors.BadLine k) on h = on (faults.BadLine k) h
tells_on r s (errors.WrongPair k) on h = on (faults.WrongPair k) h
tells_on r s (errors.BadMark k) on h = on (faults.BadMark k) h
tells_on r s errors.NoMemory on h = tt

pub tells_fault : {A : Type 0} (r : Result A Fault) (fault : Fault) → r ≡ Err fault → Tells r (error_of fault)
tells_fault r (faults.BadLine k) h = h
tells_fault r (faults.WrongPair k) h = h
tells_fault r (faults.BadMark k) h = h

-- ---- as the loop goes

pub match_went : (game : Payoffs) (offset : ℕ) (rows : List RotaRow) (expected : List ExpectedMatch) (pair : ExpectedMatch) (i m k : ℕ) (ps more : List (List ℕ)) (row : RotaRow)
    → i < length expected → pair ≡ get_or expected i pair → next_match game offset pair m k ps ≡ Ok (row, more)
    → behind_rows (rows ++ row ∷ []) (matches_at game offset (drop (i + 1) expected) (m + 1) (k + 2) more) ≡ behind_rows rows (matches_at game offset (drop i expected) m k ps)
match_went game offset rows expected pair i m k ps more row within is next =
    let front : drop i expected ≡ pair ∷ drop (i + 1) expected =
    drop-cons expected i pair within ∙ ap (λ (x : ExpectedMatch). x ∷ drop (suc i) expected) (sym is) ∙ ap (λ (n : ℕ). pair ∷ drop n expected) (sym (add-one i)) in
    sym (match_more game offset rows pair (drop (i + 1) expected) m k ps more row next) ∙ ap (λ (pairs : List ExpectedMatch). behind_rows rows (matches_at game offset pairs m k ps)) (sym front)

-- ---- the whole

pub whole_is : (head : List ℕ) (expected : List ExpectedMatch) (game : Payoffs) (offset : ℕ) (bytes : List ℕ) (at : ℕ) (rest : List (List ℕ))
    → behind_head (pieces head) 1 (pieces bytes) ≡ Ok (at, rest) → checkpoint_of head expected game offset bytes ≡ matches_at game offset expected 0 at rest
unfolding checkpoint_of
whole_is head expected game offset bytes at rest is = rw is refl

pub whole_fault : (head : List ℕ) (expected : List ExpectedMatch) (game : Payoffs) (offset : ℕ) (bytes : List ℕ) (fault : Fault)
    → behind_head (pieces head) 1 (pieces bytes) ≡ Err fault → checkpoint_of head expected game offset bytes ≡ Err fault
unfolding checkpoint_of
whole_fault head expected game offset bytes fault is = rw is refl
