-- Texts of lines, where each line is allowed or not by the lines before it.
use Rattle.std.specs.Prelude.{◌≡◌, ◌≢◌, ◌↔◌, ℕ, ◌+◌, ◌&&◌, ◌==◌, Bool, true, List, [], ◌∷◌, ◌++◌, length, Option, Some, None, Result, Ok, Err, if◌then◌else◌}
use Rattle.texts.specs.Cuts.{lacks}
use Rattle.texts.specs.Numbers.{◌>>=◌}

-- A grammar of lines I: S is what the lines so far leave. Each line has a text without LF; `is_line` says that its
-- numbers and names are in range, `allows` that it may stand behind the lines that left a state, and `after` what it
-- leaves then; in an ended state the text may end.
pub record Grammar (S I : Type 0) : Type 0 where
  pub text : I → List ℕ
  pub is_line : I → Bool
  pub allows : S → I → Bool
  pub after : S → I → S
  pub is_ended : S → Bool

-- where lines lead that are each allowed by those before it
abbrev pub run : {S I : Type 0} → Grammar S I → S → List I → Option S
run g s [] = Some s
run g s (i ∷ is) = if g.is_line i && g.allows s i then run g (g.after s i) is else None

-- lines, each with its LF
abbrev pub text_of : {S I : Type 0} → Grammar S I → List I → List ℕ
text_of g [] = []
text_of g (i ∷ is) = g.text i ++ 10 ∷ text_of g is

-- the bytes are lines, each allowed by those before it, up to an end
pub record Reads {S I : Type 0} (g : Grammar S I) (start : S) (bytes : List ℕ) (end : S) : Type 0 where
  pub lines : List I
  pub run_is : run g start lines ≡ Some end
  pub ends : g.is_ended end ≡ true
  pub text_is : bytes ≡ text_of g lines

-- before line k stand lines that are each allowed by those before it; what comes then is no allowed line, and not nothing after the end
pub record IsFirstBad {S I : Type 0} (g : Grammar S I) (start : S) (bytes : List ℕ) (k : ℕ) : Type 0 where
  pub good : List I
  pub count : length good + 1 ≡ k
  pub state : S
  pub run_is : run g start good ≡ Some state
  pub rest : List ℕ
  pub text_is : bytes ≡ text_of g good ++ rest
  pub stuck : (i : I) (more : List ℕ) → g.is_line i ≡ true → g.allows state i ≡ true → rest ≢ g.text i ++ 10 ∷ more
  pub open_yet : g.is_ended state ≡ true → rest ≢ []

-- ---- reading

-- a byte in front of the first piece
abbrev pub onto_first : ℕ → List (List ℕ) → List (List ℕ)
onto_first x [] = (x ∷ []) ∷ []
onto_first x (p ∷ ps) = (x ∷ p) ∷ ps

-- the pieces between LFs: one more than there are LFs
abbrev pub pieces : List ℕ → List (List ℕ)
pieces [] = [] ∷ []
pieces (x ∷ xs) = if x == 10 then [] ∷ pieces xs else onto_first x (pieces xs)

-- what a line's text leaves, where it is the text of a line that is allowed
abbrev pub step : {S I : Type 0} → Grammar S I → (List ℕ → Option I) → S → List ℕ → Option S
step g line_of s t = line_of t >>= λ i. if g.allows s i then Some (g.after s i) else None

-- line k is bad where there is no state
abbrev pub or_bad_line : {S : Type 0} → ℕ → Option S → (S → Result S ℕ) → Result S ℕ
or_bad_line k None f = Err k
or_bad_line k (Some s) f = f s

-- the state behind all pieces, of which the first is line k, or the first bad line; behind the last LF stands nothing
abbrev pub read_on : {S I : Type 0} → Grammar S I → (List ℕ → Option I) → S → ℕ → List (List ℕ) → Result S ℕ
read_on g line_of s k [] = Err k
read_on g line_of s k (last ∷ []) = if length last == 0 && g.is_ended s then Ok s else Err k
read_on g line_of s k (line ∷ piece ∷ more) = or_bad_line k (step g line_of s line) (λ s. read_on g line_of s (k + 1) (piece ∷ more))

-- line_of reads exactly the texts of lines, and no text of a line has an LF
pub record IsExact {S I : Type 0} (g : Grammar S I) (line_of : List ℕ → Option I) : Type 0 where
  pub takes : (t : List ℕ) (i : I) → line_of t ≡ Some i → (g.is_line i ≡ true) × (t ≡ g.text i)
  pub again : (i : I) → g.is_line i ≡ true → line_of (g.text i) ≡ Some i
  pub one_line : (i : I) → g.is_line i ≡ true → lacks 10 (g.text i) ≡ true

-- ---- laws

-- a line is read, and then the pieces behind it
abbrev pub LinesAreReadInTurn : Type 0 → Type 0 → Type 0
LinesAreReadInTurn S I = (g : Grammar S I) → (line_of : List ℕ → Option I) → (s : S) → (k : ℕ) → (line rest : List ℕ)
    → read_on g line_of s k (line ∷ pieces rest) ≡ or_bad_line k (step g line_of s line) (λ s. read_on g line_of s (k + 1) (pieces rest))

-- reading ends in a state exactly where the bytes are lines, each allowed by those before it, that lead there
abbrev pub ReadingIsExact : Type 0 → Type 0 → Type 0
ReadingIsExact S I = (g : Grammar S I) → (line_of : List ℕ → Option I) → IsExact g line_of → (start end : S) → (bytes : List ℕ)
    → (read_on g line_of start 1 (pieces bytes) ≡ Ok end) ↔ Reads g start bytes end

-- reading answers a line's number exactly where that line is the first that is not allowed
abbrev pub RefusalIsExact : Type 0 → Type 0 → Type 0
RefusalIsExact S I = (g : Grammar S I) → (line_of : List ℕ → Option I) → IsExact g line_of → (start : S) → (bytes : List ℕ) → (k : ℕ)
    → (read_on g line_of start 1 (pieces bytes) ≡ Err k) ↔ IsFirstBad g start bytes k
