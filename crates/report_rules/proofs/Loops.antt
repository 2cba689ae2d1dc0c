-- One line after the other, as the loop reads them.
use Rattle.std.proofs.Common.{◌≡◌, ℕ, ◌+◌, ◌∷◌, [], Bool, true, false, cond, eqb, ◌&&◌, List, length, Option, Result, Ok, Err, refl, sym, ap, ◌∙◌}
use Rattle.texts.specs.Grammar.{LinesAreReadInTurn, or_bad_line, pieces, read_on, step}
use Rattle.report_lines.specs.declared.line.Line.{Line}
use Rattle.report_lines.specs.Reading.{line_of}
use Rattle.report_rules.specs.declared.state.State.{State}
use Rattle.report_rules.specs.Grammar.{grammar, is_ended}

abbrev pub read_from : State → ℕ → List ℕ → Result State ℕ
read_from s k rest = read_on grammar line_of s k (pieces rest)

abbrev pub InTurn : Type 0
InTurn = LinesAreReadInTurn State Line

abbrev go_on : ℕ → List ℕ → Option State → Result State ℕ
go_on k more led = or_bad_line k led (λ t. read_on grammar line_of t (k + 1) (pieces more))

-- the line is read, and then what stands behind it; or it is the first bad one
pub turned : InTurn → (s : State) (k : ℕ) (rest text more : List ℕ) (led : Option State) → pieces rest ≡ text ∷ pieces more → led ≡ step grammar line_of s text → read_from s k rest ≡ go_on k more led
turned law s k rest text more led cut is = ap (read_on grammar line_of s k) cut ∙ law grammar line_of s k text more ∙ ap (go_on k more) (sym is)

abbrev at_end : State → ℕ → Bool → Bool → Result State ℕ
at_end s k empty ended = cond (empty && ended) (Ok s) (Err k)

-- something stands behind the last LF
pub left_over : (s : State) (k : ℕ) (rest : List ℕ) → pieces rest ≡ rest ∷ [] → eqb (length rest) 0 ≡ false → read_from s k rest ≡ Err k
left_over s k rest last some = ap (read_on grammar line_of s k) last ∙ ap (λ (t : Bool). at_end s k t (is_ended s)) some

-- the last line lacks
by_end : (s : State) (k : ℕ) (t : Bool) → is_ended s ≡ false → at_end s k t (is_ended s) ≡ Err k
by_end s k true open_yet = ap (at_end s k true) open_yet
by_end s k false open_yet = refl

pub not_ended : (s : State) (k : ℕ) (rest : List ℕ) → pieces rest ≡ rest ∷ [] → is_ended s ≡ false → read_from s k rest ≡ Err k
not_ended s k rest last open_yet = ap (read_on grammar line_of s k) last ∙ by_end s k (eqb (length rest) 0) open_yet

-- all lines are read
pub all_read : (s : State) (k : ℕ) (rest : List ℕ) → pieces rest ≡ rest ∷ [] → eqb (length rest) 0 ≡ true → is_ended s ≡ true → read_from s k rest ≡ Ok s
all_read s k rest last none ended =
    ap (read_on grammar line_of s k) last ∙ ap (λ (t : Bool). at_end s k t (is_ended s)) none ∙ ap (at_end s k true) ended

abbrev pub given : State → Result State ℕ
given s = Ok s
