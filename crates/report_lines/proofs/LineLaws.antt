-- A line is read exactly from its text.
use Rattle.std.proofs.Common.{◌≡◌, ℕ, ◌+◌, ◌^◌, ◌≤◌, Bool, true, false, cond, ◌&&◌, List, ◌∷◌, ◌++◌, ℤ, Option, Some, None, refl, sym, ap, subst, ◌∙◌, append_assoc, arith, inl, inr}
use Rattle.std.specs.Prelude.{codes}
use Rattle.std.specs.Fmt.{decimal}
use Rattle.std.specs.Str.{bytes_eq}
use Rattle.std.proofs.lemmas.Slice.Eq.{bytes_eq-Decides}
use Rattle.history_model.specs.declared.tally.Tally.{Tally}
use Rattle.texts.specs.Cuts.{lacks}
use Rattle.texts.specs.Numbers.{◌>>=◌, small}
use Rattle.fixed_span.specs.Span.{point}
use Rattle.fixed_span.specs.Verdict.{verdict}
use Rattle.fixed_span.specs.declared.ordering.Verdict.{Verdict}
use Rattle.fixed_span.specs.declared.ordering.Verdict.TheVariants as verdicts
use Rattle.report_lines.specs.declared.line.ShownMatch.{ShownMatch}
use Rattle.report_lines.specs.declared.line.ShownFirst.{ShownFirst}
use Rattle.report_lines.specs.declared.line.Line.{Line}
use Rattle.report_lines.specs.declared.line.Line.TheVariants as lines
use Rattle.report_lines.specs.Texts.{players_text, score_text, winner_word, scores_text, counts_text, match_text, line_text, counts_are, is_match, is_line, drill_text, points_text, first_form, total_text, is_number, are_points, is_first}
use Rattle.report_lines.specs.Reading.{rest, head_of, game_of, own_of, tally_of, counts_of, scores_of, match_of, entry_of, first_of, drill_line, fixed, guess, if_text, line_of, LinesAreExact}
use Rattle.report_lines.proofs.FieldLaws.{Below, IsBar, no_digit, number_lacks, small_again, name_lacks, name_again, score_lacks, score_again, points_again, noise_fields}
use Rattle.report_lines.proofs.HeadLaws.{head_exact, game_exact, own_exact}
use Rattle.report_lines.proofs.EntryLaws.{entry_exact}
use Rattle.report_lines.proofs.FirstLaws.{first_exact}
use Rattle.report_lines.proofs.InRange.{both_true, CountsFew, counts_few, MatchParts, match_parts, number_few, score_told, points_told}

-- ---- a line is guessed from its text

tally_again : Below → (tally : Tally) → CountsFew tally → counts_of (counts_text (Some tally)) ≡ Some (Some tally)
unfolding counts_of tally_of
tally_again l tally few =
    let bar : IsBar 124 = inr refl in
    let left = number_lacks l 124 (tally.cc + tally.cd) bar (omega (arith, few.cc, few.cd)) in
    let right = number_lacks l 124 (tally.cc + tally.dc) bar (omega (arith, few.cc, few.dc)) in
    let cc = number_lacks l 124 tally.cc bar (omega (arith, few.cc)) in
    let cd = number_lacks l 124 tally.cd bar (omega (arith, few.cd)) in
    let dc = number_lacks l 124 tally.dc bar (omega (arith, few.dc)) in
    let dd = number_lacks l 124 tally.dd bar (omega (arith, few.dd)) in
    let t4 : List ℕ = decimal tally.dd in
    let t3 : List ℕ = decimal tally.dc ++ 124 ∷ t4 in
    let t2 : List ℕ = decimal tally.cd ++ 124 ∷ t3 in
    let t1 : List ℕ = decimal tally.cc ++ 124 ∷ t2 in
    let t0 : List ℕ = decimal (tally.cc + tally.dc) ++ 124 ∷ t1 in
    rw (
      l.cuts.behind_it 124 (decimal (tally.cc + tally.cd)) t0 left,
      l.cuts.behind_it 124 (decimal (tally.cc + tally.dc)) t1 right,
      l.cuts.before_it 124 (decimal tally.cc) t2 cc,
      l.cuts.behind_it 124 (decimal tally.cc) t2 cc,
      small_again l tally.cc few.cc,
      l.cuts.before_it 124 (decimal tally.cd) t3 cd,
      l.cuts.behind_it 124 (decimal tally.cd) t3 cd,
      small_again l tally.cd few.cd,
      l.cuts.before_it 124 (decimal tally.dc) t4 dc,
      l.cuts.behind_it 124 (decimal tally.dc) t4 dc,
      small_again l tally.dc few.dc,
      l.cuts.before_none 124 (decimal tally.dd) dd,
      small_again l tally.dd few.dd,
    ) refl

mixed_again : counts_of (counts_text None) ≡ Some None
unfolding counts_of
mixed_again = refl

counts_again : Below → (turns : ℕ) (counts : Option Tally) → turns ≤ 10 ^ 12 → counts_are turns counts ≡ true → counts_of (counts_text counts) ≡ Some counts
counts_again l turns None few h = mixed_again
counts_again l turns (Some tally) few h = tally_again l tally (counts_few turns tally few h)

winner_lacks_bar : (v : Verdict) → lacks 124 (winner_word v) ≡ true
winner_lacks_bar verdicts.Greater = refl
winner_lacks_bar verdicts.Less = refl
winner_lacks_bar verdicts.Level = refl
winner_lacks_bar verdicts.Undecided = refl

winner_lacks_end : (v : Verdict) → lacks 10 (winner_word v) ≡ true
winner_lacks_end verdicts.Greater = refl
winner_lacks_end verdicts.Less = refl
winner_lacks_end verdicts.Level = refl
winner_lacks_end verdicts.Undecided = refl

scores_again : Below → (m : ShownMatch) → MatchParts m
    → scores_of (scores_text m.left_score m.right_score ++ counts_text m.tally) ≡ Some (m.left_score, m.right_score, m.tally)
unfolding scores_of
scores_again l m p =
    let bar : IsBar 124 = inr refl in
    let word : List ℕ = winner_word (verdict m.left_score m.right_score) in
    let told_left = score_told m.left_score p.left_score in
    let told_right = score_told m.right_score p.right_score in
    let left = score_lacks l 124 m.left_score bar told_left in
    let right = score_lacks l 124 m.right_score bar told_right in
    let t2 : List ℕ = counts_text m.tally in
    let t1 : List ℕ = word ++ 124 ∷ t2 in
    let t0 : List ℕ = score_text m.right_score ++ 124 ∷ t1 in
    let regroup : scores_text m.left_score m.right_score ++ counts_text m.tally ≡ score_text m.left_score ++ 124 ∷ t0 = simp append_assoc in
    ap scores_of regroup ∙ rw (
      l.cuts.before_it 124 (score_text m.left_score) t0 left,
      l.cuts.behind_it 124 (score_text m.left_score) t0 left,
      score_again l m.left_score told_left,
      l.cuts.before_it 124 (score_text m.right_score) t1 right,
      l.cuts.behind_it 124 (score_text m.right_score) t1 right,
      score_again l m.right_score told_right,
      l.cuts.behind_it 124 word t2 (winner_lacks_bar (verdict m.left_score m.right_score)),
      counts_again l m.turns m.tally p.turns p.counts,
    ) refl

match_again : Below → (m : ShownMatch) → is_match m ≡ true → match_of (rest (match_text m)) ≡ Some m
unfolding match_of
match_again l m h =
    let p = match_parts m h in
    let bar : IsBar 124 = inr refl in
    let left = name_lacks 124 m.left bar p.left in
    let right = name_lacks 124 m.right bar p.right in
    let turns = number_lacks l 124 m.turns bar (omega (arith, p.turns)) in
    let t2 : List ℕ = scores_text m.left_score m.right_score ++ counts_text m.tally in
    let t1 : List ℕ = decimal m.turns ++ 124 ∷ t2 in
    let t0 : List ℕ = m.right ++ 124 ∷ t1 in
    let regroup : rest (match_text m) ≡ m.left ++ 124 ∷ t0 = simp append_assoc in
    ap match_of regroup ∙ rw (
      l.cuts.before_it 124 m.left t0 left,
      l.cuts.behind_it 124 m.left t0 left,
      name_again m.left p.left,
      l.cuts.before_it 124 m.right t1 right,
      l.cuts.behind_it 124 m.right t1 right,
      name_again m.right p.right,
      l.cuts.before_it 124 (decimal m.turns) t2 turns,
      l.cuts.behind_it 124 (decimal m.turns) t2 turns,
      small_again l m.turns p.turns,
      scores_again l m p,
    ) refl

drill_again : Below → (number : ℕ) → is_number number ≡ true → guess (drill_text number) ≡ Some (lines.Drill number)
unfolding guess fixed drill_line
drill_again l number h =
    let few = number_few number h in
    let bar : IsBar 124 = inr refl in
    let n = l.numbers.digits 124 number (no_digit 124 bar) (omega (arith, few)) in
    let again : small (decimal number) ≡ Some number = (l.numbers.small_numbers (decimal number) number).1 (refl, few) in
    rw (l.cuts.before_it 124 (decimal number) (codes "64|1000000000") n, again) refl

total_again : Below → (sum : ℤ) → are_points sum ≡ true → guess (total_text sum) ≡ Some (lines.Total sum)
unfolding guess fixed drill_line
total_again l sum h =
    let told = points_told sum h in
    let bar : IsBar 124 = inr refl in
    rw (l.cuts.before_none 124 (points_text sum) (score_lacks l 124 (point sum) bar told), points_again l sum told) refl

first_guessed : Below → (x : ShownFirst) → is_first x ≡ true → guess (codes "first|" ++ first_form.text x) ≡ Some (lines.First x)
unfolding guess fixed drill_line first_of
first_guessed l x h = rw ((first_exact l).again x h) refl

guess_again : Below → (line : Line) → is_line line ≡ true → guess (line_text line) ≡ Some line
unfolding guess fixed head_of game_of own_of entry_of
guess_again l (lines.Head x) h = rw ((head_exact l).again x h) refl
guess_again l (lines.Game game) h = rw ((game_exact l).again game h) refl
guess_again l (lines.Noise noise) h = rw ((noise_fields l).again noise h) refl
guess_again l (lines.Own x) h = rw ((own_exact l).again x h) refl
guess_again l (lines.Match m) h = rw (match_again l m h) refl
guess_again l (lines.Entry x) h = rw ((entry_exact l).again x h) refl
guess_again l (lines.Drill number) h = drill_again l number h
guess_again l (lines.First x) h = first_guessed l x h
guess_again l (lines.Total sum) h = total_again l sum h
guess_again l lines.End h = refl

-- ---- a line is read from its text, and from no other

same_bytes : (t : List ℕ) → bytes_eq t t ≡ true
same_bytes t = (bytes_eq-Decides t t).1 refl

again : Below → (line : Line) → is_line line ≡ true → line_of (line_text line) ≡ Some line
unfolding line_of
again l line h = rw (guess_again l line h, h, same_bytes (line_text line)) refl

bind_some : {A B : Type 0} (r : Option A) (f : A → Option B) (y : B) → (r >>= f) ≡ Some y → (x : A) × (r ≡ Some x) × (f x ≡ Some y)
bind_some None f y e = absurd cc
bind_some (Some x) f y e = (x, refl, e)

went : {A : Type 0} (t : Bool) (x y : A) → cond t (Some x) None ≡ Some y → (t ≡ true) × (x ≡ y)
went true x y e = (refl, cc)
went false x y e = absurd cc

takes : (t : List ℕ) (line : Line) → line_of t ≡ Some line → (is_line line ≡ true) × (t ≡ line_text line)
unfolding line_of
takes t line e =
    let a = bind_some (guess t) (if_text t) line e in
    let w = went (is_line a.0 && bytes_eq (line_text a.0) t) a.0 line a.2 in
    let b = both_true (is_line a.0) (bytes_eq (line_text a.0) t) w.0 in
    subst (λ (x : Line). (is_line x ≡ true) × (t ≡ line_text x)) w.1 (b.0, sym ((bytes_eq-Decides (line_text a.0) t).0 b.1))

-- ---- no LF stands in a line

tally_line : Below → (tally : Tally) → CountsFew tally → lacks 10 (counts_text (Some tally)) ≡ true
tally_line l tally few =
    let feed : IsBar 10 = inl refl in
    l.cuts.together 10 (decimal (tally.cc + tally.cd)) _ (number_lacks l 10 (tally.cc + tally.cd) feed (omega (arith, few.cc, few.cd)))
    (l.cuts.together 10 (decimal (tally.cc + tally.dc)) _ (number_lacks l 10 (tally.cc + tally.dc) feed (omega (arith, few.cc, few.dc)))
    (l.cuts.together 10 (decimal tally.cc) _ (number_lacks l 10 tally.cc feed (omega (arith, few.cc)))
    (l.cuts.together 10 (decimal tally.cd) _ (number_lacks l 10 tally.cd feed (omega (arith, few.cd)))
    (l.cuts.together 10 (decimal tally.dc) _ (number_lacks l 10 tally.dc feed (omega (arith, few.dc))) (number_lacks l 10 tally.dd feed (omega (arith, few.dd)))))))

counts_line : Below → (turns : ℕ) (counts : Option Tally) → turns ≤ 10 ^ 12 → counts_are turns counts ≡ true → lacks 10 (counts_text counts) ≡ true
counts_line l turns None few h = refl
counts_line l turns (Some tally) few h = tally_line l tally (counts_few turns tally few h)

match_line : Below → (m : ShownMatch) → is_match m ≡ true → lacks 10 (match_text m) ≡ true
match_line l m h =
    let p = match_parts m h in
    let feed : IsBar 10 = inl refl in
    let players : lacks 10 (players_text m.left m.right m.turns) ≡ true =
    l.cuts.together 10 m.left _ (name_lacks 10 m.left feed p.left)
    (l.cuts.together 10 m.right _ (name_lacks 10 m.right feed p.right)
    (l.cuts.together 10 (decimal m.turns) _ (number_lacks l 10 m.turns feed (omega (arith, p.turns))) refl)) in
    let scores : lacks 10 (scores_text m.left_score m.right_score) ≡ true =
    l.cuts.together 10 (score_text m.left_score) _ (score_lacks l 10 m.left_score feed (score_told m.left_score p.left_score))
    (l.cuts.together 10 (score_text m.right_score) _ (score_lacks l 10 m.right_score feed (score_told m.right_score p.right_score))
    (l.cuts.together 10 (winner_word (verdict m.left_score m.right_score)) _ (winner_lacks_end (verdict m.left_score m.right_score)) refl)) in
    l.cuts.together 10 (players_text m.left m.right m.turns) _ players
    (l.cuts.together 10 (scores_text m.left_score m.right_score) _ scores (counts_line l m.turns m.tally p.turns p.counts))

drill_one : Below → (number : ℕ) → is_number number ≡ true → lacks 10 (drill_text number) ≡ true
drill_one l number h =
    let few = number_few number h in
    let feed : IsBar 10 = inl refl in
    l.cuts.together 10 (decimal number) _ (l.numbers.digits 10 number (no_digit 10 feed) (omega (arith, few))) refl

total_one : Below → (sum : ℤ) → are_points sum ≡ true → lacks 10 (total_text sum) ≡ true
total_one l sum h = let feed : IsBar 10 = inl refl in score_lacks l 10 (point sum) feed (points_told sum h)

one_line : Below → (line : Line) → is_line line ≡ true → lacks 10 (line_text line) ≡ true
one_line l (lines.Head x) h = (head_exact l).one_line x h
one_line l (lines.Game game) h = (game_exact l).one_line game h
one_line l (lines.Noise noise) h = (noise_fields l).one_line noise h
one_line l (lines.Own x) h = (own_exact l).one_line x h
one_line l (lines.Match m) h = match_line l m h
one_line l (lines.Entry x) h = (entry_exact l).one_line x h
one_line l (lines.Drill number) h = drill_one l number h
one_line l (lines.First x) h = (first_exact l).one_line x h
one_line l (lines.Total sum) h = total_one l sum h
one_line l lines.End h = refl

pub exact : Below → LinesAreExact
exact l = record { takes = takes; again = again l; one_line = one_line l }
