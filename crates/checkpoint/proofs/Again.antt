-- The text of rows in range is read as these rows.
use Rattle.std.proofs.Common.{◌≡◌, ℕ, ◌+◌, ◌^◌, ◌<◌, ◌≤◌, true, eqb, List, [], ◌∷◌, ◌++◌, length, All, Ok, refl, sym, ap, ◌∙◌, append_assoc, arith}
use Rattle.std.specs.Str.{bytes_eq}
use Rattle.std.proofs.lemmas.Slice.Eq.{bytes_eq-Decides}
use Rattle.history_model.specs.Game.{Payoffs, IsGame}
use Rattle.texts.specs.Grammar.{pieces}
use Rattle.texts.proofs.GrammarLaws.{AllLack, IsSome, pieces_lack, pieces_line, pieces_some}
use Rattle.rota_rows.specs.declared.row.RotaRow.{RotaRow}
use Rattle.rota_rows.specs.Lines.{RotaLinesAreExact}
use Rattle.rota_rows.proofs.FieldLaws.{Below}
use Rattle.checkpoint.specs.declared.expected.ExpectedMatch.{ExpectedMatch}
use Rattle.checkpoint.specs.Checkpoints.{behind_head, checkpoint_of, matches_at, next_match, row_at}
use Rattle.checkpoint.specs.Exact.{AreRowsFor, CheckpointsAreExact, IsExpected, IsKnown, are_lines, checkpoint_text, last_or}
use Rattle.checkpoint.specs.Texts.{row_line, rows_text, score_line}
use Rattle.checkpoint.proofs.LineLaws.{line_front, whole_is}
use Rattle.checkpoint.proofs.RowLaws.{row_again, row_lacks}
use Rattle.checkpoint.proofs.ScoreLaws.{score_lacks}
use Rattle.checkpoint.proofs.Taken.{all_front, all_rest, head_lines, lines_of, range_taken, text_taken}

itself : (t : List ℕ) → bytes_eq t t ≡ true
itself t = (bytes_eq-Decides t t).1 refl

-- ---- the head

-- its lines in front of other pieces
abbrev before_pieces : List (List ℕ) → List (List ℕ) → List (List ℕ)
before_pieces (own ∷ piece ∷ more) ps = own ∷ before_pieces (piece ∷ more) ps
before_pieces _ ps = ps

before_some : (hs ps : List (List ℕ)) → IsSome ps → IsSome (before_pieces hs ps)
before_some [] ps h = h
before_some (last ∷ []) ps h = h
before_some (own ∷ piece ∷ more) ps h = tt

lines_cut : (hs : List (List ℕ)) (rest : List ℕ) → AllLack hs → pieces (lines_of hs ++ rest) ≡ before_pieces hs (pieces rest)
lines_cut [] rest h = refl
lines_cut (last ∷ []) rest h = refl
lines_cut (own ∷ piece ∷ more) rest h =
    ap pieces (append_assoc own (10 ∷ lines_of (piece ∷ more)) rest) ∙ pieces_line own (lines_of (piece ∷ more) ++ rest) h.0 ∙ ap (λ (u : List (List ℕ)). own ∷ u) (lines_cut (piece ∷ more) rest h.1)

head_read : (hs : List (List ℕ)) (k : ℕ) (ps : List (List ℕ)) → IsSome ps → (n : ℕ) × (behind_head hs k (before_pieces hs ps) ≡ Ok (n, ps))
head_read [] k ps h = (k, refl)
head_read (last ∷ []) k ps h = (k, refl)
head_read (own ∷ piece ∷ more) k ps h =
    let a = head_read (piece ∷ more) (k + 1) ps h in
    (a.0, rw (line_front k own (before_pieces (piece ∷ more) ps) (before_some (piece ∷ more) ps h), itself own) a.1)

head_again : (head rest : List ℕ) → are_lines head ≡ true → (n : ℕ) × (behind_head (pieces head) 1 (pieces (head ++ rest)) ≡ Ok (n, pieces rest))
head_again head rest whole =
    let a = head_read (pieces head) 1 (pieces rest) (pieces_some rest) in
    let cut : pieces (head ++ rest) ≡ before_pieces (pieces head) (pieces rest) = ap (λ (u : List ℕ). pieces (u ++ rest)) (sym (head_lines head whole)) ∙ lines_cut (pieces head) rest (pieces_lack head) in
    (a.0, ap (behind_head (pieces head) 1) cut ∙ a.1)

-- ---- the matches

next_from : (game : Payoffs) (offset : ℕ) (pair : ExpectedMatch) (m k : ℕ) (line second : List ℕ) (row : RotaRow) (ps : List (List ℕ)) → IsSome ps → row_at pair m k line ≡ Ok row → bytes_eq second (score_line game offset m row) ≡ true
    → next_match game offset pair m k (line ∷ second ∷ ps) ≡ Ok (row, ps)
next_from game offset pair m k line second row ps some is same = rw (is, line_front (k + 1) second ps some, same) refl

more_from : (game : Payoffs) (offset : ℕ) (pair : ExpectedMatch) (pairs : List ExpectedMatch) (m k : ℕ) (ps rest : List (List ℕ)) (row : RotaRow) (more : List RotaRow)
    → next_match game offset pair m k ps ≡ Ok (row, rest) → matches_at game offset pairs (m + 1) (k + 2) rest ≡ Ok more → matches_at game offset (pair ∷ pairs) m k ps ≡ Ok (row ∷ more)
more_from game offset pair pairs m k ps rest row more next behind = rw (next, behind) refl

matches_again : Below → RotaLinesAreExact → (game : Payoffs) (offset : ℕ) → IsGame game → offset ≤ 1000000 → (pairs : List ExpectedMatch) (rows : List RotaRow) (m k : ℕ)
    → m + length pairs ≤ 2 ^ 32 → All IsExpected pairs → AreRowsFor pairs rows → matches_at game offset pairs m k (pieces (rows_text game offset m pairs rows)) ≡ Ok rows
matches_again l r game offset g near [] [] m k few each h = refl
matches_again l r game offset g near [] (row ∷ rows) m k few each h = absurd h
matches_again l r game offset g near (pair ∷ pairs) [] m k few each h = absurd h
matches_again l r game offset g near (pair ∷ pairs) (row ∷ rows) m k few each h =
    let small : m < 2 ^ 32 = omega (arith, few) in
    let is : IsExpected pair = all_front IsExpected pair pairs each in
    let first : List ℕ = row_line pair m row in
    let second : List ℕ = score_line game offset m row in
    let rest : List ℕ = rows_text game offset (m + 1) pairs rows in
    let cut : pieces (first ++ 10 ∷ (second ++ 10 ∷ rest)) ≡ first ∷ second ∷ pieces rest =
    pieces_line first (second ++ 10 ∷ rest) (row_lacks l pair m row small is h.0)
    ∙ ap (λ (u : List (List ℕ)). first ∷ u) (pieces_line second rest (score_lacks r game offset m row g near small h.0.few_turns)) in
    let next = next_from game offset pair m k first second row (pieces rest) (pieces_some rest) (row_again l pair m k row small is h.0) (itself second) in
    let behind = matches_again l r game offset g near pairs rows (m + 1) (k + 2) (omega (arith, few)) (all_rest IsExpected pair pairs each) h.1 in
    ap (matches_at game offset (pair ∷ pairs) m k) cut ∙ more_from game offset pair pairs m k (first ∷ second ∷ pieces rest) (pieces rest) row rows next behind

text_again : Below → RotaLinesAreExact → (head : List ℕ) (expected : List ExpectedMatch) (game : Payoffs) (offset : ℕ) (rows : List RotaRow)
    → IsKnown head expected game offset → AreRowsFor expected rows → checkpoint_of head expected game offset (checkpoint_text head expected game offset rows) ≡ Ok rows
text_again l r head expected game offset rows known h =
    let rest : List ℕ = rows_text game offset 0 expected rows in
    let a = head_again head rest known.whole_lines in
    whole_is head expected game offset (head ++ rest) a.0 (pieces rest) a.1
    ∙ matches_again l r game offset known.payoffs known.near expected rows 0 a.0 (omega (arith, known.few)) known.each h

-- ---- whole lines

last_on : (line more : List ℕ) (d : ℕ) → last_or d (line ++ 10 ∷ more) ≡ last_or 10 more
last_on [] more d = refl
last_on (x ∷ line) more d = last_on line more x

line_front_whole : (line more : List ℕ) → are_lines more ≡ true → are_lines (line ++ 10 ∷ more) ≡ true
line_front_whole line more h = ap (λ (n : ℕ). eqb n 10) (last_on line more 10) ∙ h

pub exact : Below → RotaLinesAreExact → CheckpointsAreExact
exact l r = record { again = text_again l r; takes = text_taken l; range = range_taken; lines = line_front_whole }
