-- What the tests of a line say of a match, both ways.
use Rattle.std.proofs.Common.{◌≡◌, ℕ, ◌*◌, ◌^◌, ◌≤◌, Bool, true, false, not, eqb, leb, ◌&&◌, ◌||◌, if◌then◌else◌, ℤ, pos, neg_ℤ, ◌≤ℤ◌, List, [], length, Option, Some, None, refl, ap, ◌∙◌, arith}
use Rattle.std.specs.Prelude.{int_le, IfSome}
use Rattle.std.specs.List.{All}
use Rattle.std.specs.Ordering.{int_eq}
use Rattle.std.proofs.lemmas.Bool.{eqb-true}
use Rattle.std.proofs.lemmas.Bool.Decides.{nat_tests, Decides-int_eq}
use Rattle.std.proofs.lemmas.Int.{ints}
use Rattle.history_model.specs.declared.tally.Tally.{Tally}
use Rattle.history_model.specs.Name.{is_name, IsName}
use Rattle.history_model.specs.Noise.{FlipRate, IsFlipRate}
use Rattle.history_model.specs.Tally.{total, left_points, right_points}
use Rattle.fixed_span.specs.Span.{Ends}
use Rattle.result_lines.specs.declared.line.MatchLine.{MatchLine}
use Rattle.report_lines.specs.declared.line.ShownMatch.{ShownMatch}
use Rattle.report_lines.specs.Texts.{is_noise, is_turns, is_score, counts_are, is_match}
use Rattle.report_rules.specs.declared.report.Head.{Head}
use Rattle.report_rules.specs.MatchRules.{is_scored, is_shown, pays, same_ends}
use Rattle.report_names.specs.Names.{name_at}
use Rattle.report_rules.specs.Text.{shown_match}
use Rattle.report_rules.specs.Valid.{IsScore, IsCounted, IsMatchOf, IsShowable, paid}

pub both_true : (a b : Bool) → (a && b) ≡ true → (a ≡ true) × (b ≡ true)
both_true true b e = (refl, e)
both_true false b e = absurd cc

pub leb_is : (a b : ℕ) → leb a b ≡ true → a ≤ b
leb_is a b h = grind (arith, nat_tests)

pub int_le_is : (a b : ℤ) → int_le a b ≡ true → a ≤ℤ b
int_le_is a b h = grind (arith, ints)

-- a score is in the range of lines, and may be as low in this version
pub score_is : (score : Ends) → is_score score ≡ true → IsScore 2 score
score_is score h =
    let a = both_true (int_le (neg_ℤ (pos (10 ^ 33))) score.lo) (int_le score.lo score.hi && int_le score.hi (pos (10 ^ 33))) h in
    let b = both_true (int_le score.lo score.hi) (int_le score.hi (pos (10 ^ 33))) a.1 in
    record { low = int_le_is (neg_ℤ (pos (10 ^ 33))) score.lo a.0; ordered = int_le_is score.lo score.hi b.0; high = int_le_is score.hi (pos (10 ^ 33)) b.1 }

low_from : (first : Bool) (lo : ℤ) → neg_ℤ (pos (10 ^ 33)) ≤ℤ lo → (not first || int_le (pos 0) lo) ≡ true → (if first then pos 0 else neg_ℤ (pos (10 ^ 33))) ≤ℤ lo
low_from true lo h e = int_le_is (pos 0) lo e
low_from false lo h e = h

pub shown_is : (version : ℕ) (score : Ends) → IsScore 2 score → is_shown version score ≡ true → IsScore version score
shown_is version score h e = record { low = low_from (eqb version 1) score.lo h.low e; ordered = h.ordered; high = h.high }

pub record MatchParts (m : ShownMatch) : Type 0 where
  pub left : IsName m.left
  pub right : IsName m.right
  pub some_turns : 1 ≤ m.turns
  pub few_turns : m.turns ≤ 10 ^ 12
  pub left_score : IsScore 2 m.left_score
  pub right_score : IsScore 2 m.right_score
  pub counts : counts_are m.turns m.tally ≡ true

pub match_parts : (m : ShownMatch) → is_match m ≡ true → MatchParts m
match_parts m h =
    let a = both_true (is_name m.left && is_name m.right) ((is_turns m.turns && is_score m.left_score) && (is_score m.right_score && counts_are m.turns m.tally)) h in
    let n = both_true (is_name m.left) (is_name m.right) a.0 in
    let b = both_true (is_turns m.turns && is_score m.left_score) (is_score m.right_score && counts_are m.turns m.tally) a.1 in
    let c = both_true (is_turns m.turns) (is_score m.left_score) b.0 in
    let d = both_true (is_score m.right_score) (counts_are m.turns m.tally) b.1 in
    let t = both_true (leb 1 m.turns) (leb m.turns (10 ^ 12)) c.0 in
    record {
      left = n.0;
      right = n.1;
      some_turns = leb_is 1 m.turns t.0;
      few_turns = leb_is m.turns (10 ^ 12) t.1;
      left_score = score_is m.left_score c.1;
      right_score = score_is m.right_score d.0;
      counts = d.1;
    }

pub noise_is : (noise : FlipRate) → is_noise noise ≡ true → IsFlipRate noise
noise_is noise h =
    let a = both_true (leb 1 noise.e && leb noise.e 1000) (leb (2 * noise.n) noise.e) h in
    let b = both_true (leb 1 noise.e) (leb noise.e 1000) a.0 in
    record { some = leb_is 1 noise.e b.0; few = leb_is noise.e 1000 b.1; half = leb_is (2 * noise.n) noise.e a.1 }

abbrev pub ends : ℤ → ℤ → Ends
ends lo hi = record { lo = lo; hi = hi }

pub ends_are : (a b : Ends) → same_ends a b ≡ true → a ≡ b
ends_are a b h =
    let t = both_true (int_eq a.lo b.lo) (int_eq a.hi b.hi) h in
    let lo : a.lo ≡ b.lo = (Decides-int_eq a.lo b.lo).0 t.0 in
    let hi : a.hi ≡ b.hi = (Decides-int_eq a.hi b.hi).0 t.1 in
    ap (λ (x : ℤ). ends x a.hi) lo ∙ ap (λ (x : ℤ). ends b.lo x) hi

counted : (head : Head) (line : MatchLine) (tally : Option Tally) → counts_are line.turns tally ≡ true → pays head line.left_score line.right_score line.turns tally ≡ true → IfSome tally (IsCounted head line)
counted head line None h e = tt
counted head line (Some tally) h e =
    let left : Ends = paid head.offset line.turns (left_points head.game tally) in
    let right : Ends = paid head.offset line.turns (right_points head.game tally) in
    let b = both_true (same_ends line.left_score left) (same_ends line.right_score right) e in
    record { turns = eqb-true (total tally) line.turns h; left = ends_are line.left_score left b.0; right = ends_are line.right_score right b.1 }

abbrev placed_so : ℕ → ℕ → ShownMatch → MatchLine
placed_so left right m = record { left = left; right = right; turns = m.turns; left_score = m.left_score; right_score = m.right_score; tally = m.tally }

-- a match that is read can be shown, wherever its entries are placed
pub read_is : (head : Head) (m : ShownMatch) (left right : ℕ) → MatchParts m → is_scored head m ≡ true → IsShowable head (placed_so left right m)
read_is head m left right p e =
    let line : MatchLine = placed_so left right m in
    let a = both_true (is_shown head.version m.left_score && is_shown head.version m.right_score) (pays head m.left_score m.right_score m.turns m.tally) e in
    let b = both_true (is_shown head.version m.left_score) (is_shown head.version m.right_score) a.0 in
    record {
      some_turns = p.some_turns;
      few_turns = p.few_turns;
      left = shown_is head.version m.left_score p.left_score b.0;
      right = shown_is head.version m.right_score p.right_score b.1;
      counts = counted head line m.tally p.counts a.1;
    }

-- ---- the way back

pub both_back : (a b : Bool) → a ≡ true → b ≡ true → (a && b) ≡ true
both_back a b h k = rw (h, k) refl

pub leb_back : (a b : ℕ) → a ≤ b → leb a b ≡ true
leb_back a b h = grind (arith, nat_tests)

pub int_le_back : (a b : ℤ) → a ≤ℤ b → int_le a b ≡ true
int_le_back a b h = grind (arith, ints)

pub noise_back : (noise : FlipRate) → IsFlipRate noise → is_noise noise ≡ true
noise_back noise h = rw (leb_back 1 noise.e h.some, leb_back noise.e 1000 h.few, leb_back (2 * noise.n) noise.e h.half) refl

wide_from : (first : Bool) (lo : ℤ) → (if first then pos 0 else neg_ℤ (pos (10 ^ 33))) ≤ℤ lo → neg_ℤ (pos (10 ^ 33)) ≤ℤ lo
wide_from true lo h = omega (arith, ints, h)
wide_from false lo h = h

shown_from : (first : Bool) (lo : ℤ) → (if first then pos 0 else neg_ℤ (pos (10 ^ 33))) ≤ℤ lo → (not first || int_le (pos 0) lo) ≡ true
shown_from true lo h = int_le_back (pos 0) lo h
shown_from false lo h = refl

-- a score of either version is in the range of lines
pub wide : (version : ℕ) (score : Ends) → IsScore version score → IsScore 2 score
wide version score h = record { low = wide_from (eqb version 1) score.lo h.low; ordered = h.ordered; high = h.high }

score_back : (version : ℕ) (score : Ends) → IsScore version score → is_score score ≡ true
score_back version score h =
    let w : IsScore 2 score = wide version score h in
    rw (int_le_back (neg_ℤ (pos (10 ^ 33))) score.lo w.low, int_le_back score.lo score.hi h.ordered, int_le_back score.hi (pos (10 ^ 33)) h.high) refl

shown_back : (version : ℕ) (score : Ends) → IsScore version score → is_shown version score ≡ true
shown_back version score h = shown_from (eqb version 1) score.lo h.low

pub ends_back : (a b : Ends) → a ≡ b → same_ends a b ≡ true
ends_back a b e =
    both_back (int_eq a.lo b.lo) (int_eq a.hi b.hi) ((Decides-int_eq a.lo b.lo).1 (ap (λ (x : Ends). x.lo) e)) ((Decides-int_eq a.hi b.hi).1 (ap (λ (x : Ends). x.hi) e))

paid_if : (head : Head) (line : MatchLine) (tally : Option Tally) → IfSome tally (IsCounted head line) → pays head line.left_score line.right_score line.turns tally ≡ true
paid_if head line None h = refl
paid_if head line (Some tally) h =
    let left : Ends = paid head.offset line.turns (left_points head.game tally) in
    let right : Ends = paid head.offset line.turns (right_points head.game tally) in
    both_back (same_ends line.left_score left) (same_ends line.right_score right) (ends_back line.left_score left h.left) (ends_back line.right_score right h.right)

pub scored_back : (head : Head) (names : List (List ℕ)) (line : MatchLine) → IsShowable head line → is_scored head (shown_match names line) ≡ true
scored_back head names line h =
    both_back (is_shown head.version line.left_score && is_shown head.version line.right_score) (pays head line.left_score line.right_score line.turns line.tally)
    (both_back (is_shown head.version line.left_score) (is_shown head.version line.right_score) (shown_back head.version line.left_score h.left) (shown_back head.version line.right_score h.right))
    (paid_if head line line.tally h.counts)

pub same_number : (n : ℕ) → eqb n n ≡ true
same_number n = grind (arith, nat_tests)

counts_if : (head : Head) (line : MatchLine) (tally : Option Tally) → IfSome tally (IsCounted head line) → counts_are line.turns tally ≡ true
counts_if head line None h = refl
counts_if head line (Some tally) h = rw h.turns (same_number line.turns)

pub match_back : (head : Head) (names : List (List ℕ)) (line : MatchLine) → All IsName names → IsMatchOf (length names) head line → is_match (shown_match names line) ≡ true
match_back head names line all v =
    let s = v.showable in
    let turns : is_turns line.turns ≡ true = both_back (leb 1 line.turns) (leb line.turns (10 ^ 12)) (leb_back 1 line.turns s.some_turns) (leb_back line.turns (10 ^ 12) s.few_turns) in
    let left : IsName (name_at names line.left) = all line.left [] v.left in
    let right : IsName (name_at names line.right) = all line.right [] v.right in
    rw (left, right, turns, score_back head.version line.left_score s.left, score_back head.version line.right_score s.right, counts_if head line line.tally s.counts) refl
