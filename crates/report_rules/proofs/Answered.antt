-- What reading answers is right.
use Rattle.std.proofs.Common.{◌≡◌, ℕ, List, [], ◌∷◌, ◌++◌, Result, Ok, Err, refl, sym, ap, ◌∙◌}
use Rattle.std.specs.Prelude.{IfOk}
use Rattle.history_model.specs.Noise.{FlipRate}
use Rattle.texts.specs.Grammar.{text_of, pieces, read_on, IsExact, ReadingIsExact, RefusalIsExact}
use Rattle.report_lines.specs.declared.line.Line.{Line}
use Rattle.report_lines.specs.Texts.{line_text}
use Rattle.report_lines.specs.Reading.{line_of, LinesAreExact}
use Rattle.report_rules.specs.declared.reading.ReportError.{ReportError}
use Rattle.report_rules.specs.declared.reading.ReportError.TheVariants as errors
use Rattle.report_rules.specs.declared.report.Body.{Body}
use Rattle.report_rules.specs.declared.report.Head.{Head}
use Rattle.report_rules.specs.declared.report.Report.{Report}
use Rattle.report_rules.specs.declared.state.State.{State}
use Rattle.report_rules.specs.declared.state.State.TheVariants as states
use Rattle.report_rules.specs.Grammar.{grammar}
use Rattle.report_rules.specs.Read.{Gives, Refuses, IfBad, IsBadLine, Reading, whole}
use Rattle.report_rules.specs.Text.{lines_of, text_of_lines, report_text}
use Rattle.report_rules.specs.Valid.{IsValid, OneReportAText, head_of}
use Rattle.report_rules.proofs.SoFar.{run_adds, runs}

-- the laws of the crates below
pub record Below : Type 0 where
  pub lines : LinesAreExact
  pub reading : ReadingIsExact State Line
  pub refusal : RefusalIsExact State Line

exact : LinesAreExact → IsExact grammar line_of
exact l = record { takes = l.takes; again = l.again; one_line = l.one_line }

same_text : (is : List Line) → text_of grammar is ≡ text_of_lines is
same_text [] = refl
same_text (i ∷ is) = ap (λ (t : List ℕ). line_text i ++ 10 ∷ t) (same_text is)

abbrev read : List ℕ → Result State ℕ
read bytes = read_on grammar line_of states.Start 1 (pieces bytes)

is_found : Below → (bytes : List ℕ) (r : Report) → read bytes ≡ Ok (whole r) → IsValid r × (bytes ≡ report_text r)
is_found l bytes r e =
    let x = (l.reading grammar line_of (exact l.lines) states.Start (whole r) bytes).0 e in
    let a = run_adds x.lines states.Start (whole r) tt x.run_is in
    let same : x.lines ≡ lines_of r = sym a.1 in (
      record { head = a.0.0.told; game = a.0.0.game; noise = a.0.0.noise; own = a.0.1.count; are_noises = a.0.1.are_noises; fixed = a.0.3; are_names = a.0.2.are_names; shown = a.0.2.shown; body = a.0.2.holds },
      x.text_is ∙ ap (text_of grammar) same ∙ same_text (lines_of r),
    )

is_read : Below → (bytes : List ℕ) (r : Report) → IsValid r → bytes ≡ report_text r → read bytes ≡ Ok (whole r)
is_read l bytes r v e =
    (l.reading grammar line_of (exact l.lines) states.Start (whole r) bytes).1 (record { lines = lines_of r; run_is = runs r v; ends = refl; text_is = e ∙ sym (same_text (lines_of r)) })

-- ---- answers

abbrev give : State → Result State ℕ
give s = Ok s

abbrev refuse : ℕ → Result State ℕ
refuse k = Err k

ok_is : (a b : State) → give a ≡ give b → a ≡ b
ok_is a b e = cc

err_is : (j k : ℕ) → refuse j ≡ refuse k → j ≡ k
err_is j k e = cc

apart : (s : State) (k : ℕ) → give s ≡ refuse k → ⊥
apart s k e = absurd cc

abbrev made : Head → List FlipRate → List (List ℕ) → Body → Report
made head noises names body =
    record { version = head.version; offset = head.offset; game = head.game; noise = head.noise; noises = noises; names = names; body = body }

same_made : (g h : Head) (l m : List FlipRate) (ns ms : List (List ℕ)) (b c : Body) → states.Ended g l ns b ≡ states.Ended h m ms c → made g l ns b ≡ made h m ms c
same_made g h l m ns ms b c same = cc

same_report : (a b : Report) → whole a ≡ whole b → a ≡ b
same_report a b same = same_made (head_of a) (head_of b) a.noises b.noises a.names b.names a.body b.body same

pub found : Below → (bytes : List ℕ) (r : Result Report ReportError) → Reading r (read bytes) → IfOk r IsValid
found l bytes (Ok report) h = (is_found l bytes report h).0
found l bytes (Err (errors.BadLine k)) h = tt
found l bytes (Err errors.NoMemory) h = tt

pub text : Below → (bytes : List ℕ) (r : Result Report ReportError) → Reading r (read bytes) → IfOk r (λ report. bytes ≡ report_text report)
text l bytes (Ok report) h = (is_found l bytes report h).1
text l bytes (Err (errors.BadLine k)) h = tt
text l bytes (Err errors.NoMemory) h = tt

pub only : Below → (bytes : List ℕ) (r : Result Report ReportError) → Reading r (read bytes) → (report : Report) → IsValid report → bytes ≡ report_text report → Gives r report
only l bytes (Ok answer) h report v e = same_report answer report (ok_is (whole answer) (whole report) (sym h ∙ is_read l bytes report v e))
only l bytes (Err (errors.BadLine k)) h report v e = apart (whole report) k (sym (is_read l bytes report v e) ∙ h)
only l bytes (Err errors.NoMemory) h report v e = tt

pub bad : Below → (bytes : List ℕ) (r : Result Report ReportError) → Reading r (read bytes) → IfBad r (IsBadLine bytes)
bad l bytes (Ok report) h = tt
bad l bytes (Err (errors.BadLine k)) h = (l.refusal grammar line_of (exact l.lines) states.Start bytes k).0 h
bad l bytes (Err errors.NoMemory) h = tt

refused : Below → (bytes : List ℕ) (k : ℕ) → IsBadLine bytes k → read bytes ≡ refuse k
refused l bytes k b = (l.refusal grammar line_of (exact l.lines) states.Start bytes k).1 b

pub bad_only : Below → (bytes : List ℕ) (r : Result Report ReportError) → Reading r (read bytes) → (k : ℕ) → IsBadLine bytes k → Refuses r k
bad_only l bytes (Ok report) h k b = apart (whole report) k (sym h ∙ refused l bytes k b)
bad_only l bytes (Err (errors.BadLine j)) h k b = err_is j k (sym h ∙ refused l bytes k b)
bad_only l bytes (Err errors.NoMemory) h k b = tt

pub one_text : Below → OneReportAText
one_text l a b va vb same =
    same_report a b (ok_is (whole a) (whole b) (sym (is_read l (report_text a) a va refl) ∙ is_read l (report_text a) b vb same))
