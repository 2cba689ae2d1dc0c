-- The report that is made of a match is valid.
use Rattle.std.proofs.Common.{◌≡◌, ℕ, Bool, true, false, eqb, List, [], ◌∷◌, length, if◌then◌else◌, refl, sym, ap, ◌∙◌, arith}
use Rattle.std.specs.List.{All}
use Rattle.std.specs.Str.{bytes_eq}
use Rattle.std.proofs.lemmas.List.Elements.{All-cons, All-nil}
use Rattle.std.proofs.lemmas.Slice.Eq.{bytes_eq-Decides}
use Rattle.history_model.specs.Game.{IsGame}
use Rattle.history_model.specs.Name.{IsName}
use Rattle.history_model.specs.Noise.{FlipRate, IsFlipRate}
use Rattle.result_lines.specs.declared.line.MatchLine.{MatchLine}
use Rattle.report_rules.specs.declared.report.Body.TheVariants as bodies
use Rattle.report_rules.specs.declared.report.Head.{Head}
use Rattle.report_rules.specs.declared.report.Report.{Report}
use Rattle.report_rules.specs.Valid.{IsHead, IsShowable, IsValid, own_count}
use Rattle.report_making.specs.Made.{names_of_pair, noises_of_pair}
use Rattle.report_making.proofs.MadeLaws.{counts_kept}

-- what is given
pub record Given (head : Head) (left right : List ℕ) (left_noise right_noise : FlipRate) (line : MatchLine) : Type 0 where
  pub is_head : IsHead head
  pub is_game : IsGame head.game
  pub is_noise : IsFlipRate head.noise
  pub left_name : IsName left
  pub right_name : IsName right
  pub left_rate : IsFlipRate left_noise
  pub right_rate : IsFlipRate right_noise
  pub showable : IsShowable head line

abbrev names_by : Bool → List ℕ → List ℕ → List (List ℕ)
names_by same left right = if same then left ∷ [] else left ∷ right ∷ []

abbrev noises_by : Bool → Bool → FlipRate → FlipRate → List FlipRate
noises_by first same left right = if first then [] else if same then left ∷ [] else left ∷ right ∷ []

abbrev placed : MatchLine → ℕ → MatchLine
placed line place = record { left = 0; right = place; turns = line.turns; left_score = line.left_score; right_score = line.right_score; tally = line.tally }

abbrev report_with : Head → List FlipRate → List (List ℕ) → ℕ → MatchLine → Report
report_with head noises names place line = record {
  version = head.version;
  offset = head.offset;
  game = head.game;
  noise = head.noise;
  noises = noises;
  names = names;
  body = bodies.Match (placed line place);
}

same_bytes : (name : List ℕ) → bytes_eq name name ≡ true
same_bytes name = (bytes_eq-Decides name name).1 refl

rates_are : (first same : Bool) (left right : FlipRate) → IsFlipRate left → IsFlipRate right → All IsFlipRate (noises_by first same left right)
rates_are true same left right h k = All-nil IsFlipRate
rates_are false true left right h k = All-cons IsFlipRate left [] h (All-nil IsFlipRate)
rates_are false false left right h k = All-cons IsFlipRate left (right ∷ []) h (All-cons IsFlipRate right [] k (All-nil IsFlipRate))

as_many : (first same : Bool) (version : ℕ) (left right : List ℕ) (m n : FlipRate) → eqb version 1 ≡ first → length (noises_by first same m n) ≡ own_count version (length (names_by same left right))
as_many true same version left right m n is = rw is refl
as_many false true version left right m n is = rw is refl
as_many false false version left right m n is = rw is refl

valid_by : (same : Bool) (head : Head) (left right : List ℕ) (m n : FlipRate) (line : MatchLine) → bytes_eq left right ≡ same → Given head left right m n line
    → IsValid (report_with head (noises_by (eqb head.version 1) same m n) (names_by same left right) (if same then 0 else 1) line)
valid_by true head left right m n line is g = record {
  head = g.is_head;
  game = g.is_game;
  noise = g.is_noise;
  own = as_many (eqb head.version 1) true head.version left right m n refl;
  are_noises = rates_are (eqb head.version 1) true m n g.left_rate g.right_rate;
  fixed = tt;
  are_names = All-cons IsName left [] g.left_name (All-nil IsName);
  shown = rw (same_bytes left) refl;
  body = record {
    left = omega arith;
    right = omega arith;
    showable = record { some_turns = g.showable.some_turns; few_turns = g.showable.few_turns; left = g.showable.left; right = g.showable.right; counts = counts_kept head line (placed line 0) line.tally refl refl refl g.showable.counts };
  };
}
valid_by false head left right m n line is g = record {
  head = g.is_head;
  game = g.is_game;
  noise = g.is_noise;
  own = as_many (eqb head.version 1) false head.version left right m n refl;
  are_noises = rates_are (eqb head.version 1) false m n g.left_rate g.right_rate;
  fixed = tt;
  are_names = All-cons IsName left (right ∷ []) g.left_name (All-cons IsName right [] g.right_name (All-nil IsName));
  shown = rw is refl;
  body = record {
    left = omega arith;
    right = omega arith;
    showable = record { some_turns = g.showable.some_turns; few_turns = g.showable.few_turns; left = g.showable.left; right = g.showable.right; counts = counts_kept head line (placed line 1) line.tally refl refl refl g.showable.counts };
  };
}

-- the report whose parts were made one by one
pub valid_made : (head : Head) (left right : List ℕ) (m n : FlipRate) (line : MatchLine) (noises : List FlipRate) (names : List (List ℕ)) (place : ℕ) → Given head left right m n line
    → noises ≡ noises_of_pair head.version left right m n → names ≡ names_of_pair left right → place ≡ (if bytes_eq left right then 0 else 1) → IsValid (report_with head noises names place line)
valid_made head left right m n line noises names place g noises_are names_are place_is =
    let v = valid_by (bytes_eq left right) head left right m n line refl g in
    rw (noises_are, names_are, place_is) v

pub first_place : (same : Bool) (left right : List ℕ) (place : ℕ) → same ≡ bytes_eq left right → same ≡ true → place ≡ 0 → place ≡ (if bytes_eq left right then 0 else 1)
first_place same left right place is e zero_is = zero_is ∙ ap (λ (t : Bool). if t then 0 else 1) (sym e ∙ is)

pub second_place : (same : Bool) (left right : List ℕ) (place : ℕ) → same ≡ bytes_eq left right → same ≡ false → place ≡ 1 → place ≡ (if bytes_eq left right then 0 else 1)
second_place same left right place is e one_is = one_is ∙ ap (λ (t : Bool). if t then 0 else 1) (sym e ∙ is)
