-- Payoffs raised by their offset, and back.
use Rattle.std.proofs.Common.{◌≡◌, ◌⊎◌, ℕ, ◌+◌, ◌-◌, ◌<◌, ◌≤◌, Bool, true, false, leb, ◌&&◌, max, min, ℤ, pos, negsuc, ◌+ℤ◌, unsigned_abs, FitsSigned, to_z, of_z, w64, refl, ap, ◌∙◌, inl, inr, arith}
use Rattle.std.proofs.lemmas.Bool.{cases_order}
use Rattle.std.proofs.lemmas.Bool.Decides.{nat_tests}
use Rattle.std.proofs.lemmas.Int.{ints, to_z-of_z}
use Rattle.history_model.specs.Game.{Payoffs, magnitude, magnitude_back, IsGame}
use Rattle.report_lines.specs.declared.line.ShownGame.{ShownGame}
use Rattle.report_lines.specs.Fields.{is_amount}
use Rattle.report_lines.specs.HeadForms.{is_game}
use Rattle.report_lines.specs.Payoffs.{below, offset_of, raised, raised_game, is_small, are_near, less, shown_game, IsOffset}

both_parts : (a b : Bool) → (a && b) ≡ true → (a ≡ true) × (b ≡ true)
both_parts true b e = (refl, e)
both_parts false b e = absurd cc

leb_is : (a b : ℕ) → leb a b ≡ true → a ≤ b
leb_is a b h = grind (arith, nat_tests)

leb_back : (a b : ℕ) → a ≤ b → leb a b ≡ true
leb_back a b h = grind (arith, nat_tests)

-- ---- from what a line shows

-- the four absolute values of a line that is read
record AreAmounts (x : ShownGame) : Type 0 where
  reward : unsigned_abs x.r ≤ 1000000
  sucker : unsigned_abs x.s ≤ 1000000
  temptation : unsigned_abs x.t ≤ 1000000
  punishment : unsigned_abs x.p ≤ 1000000

amounts_are : (x : ShownGame) → is_game x ≡ true → AreAmounts x
amounts_are x h =
    let a = both_parts (is_amount (unsigned_abs x.r)) (is_amount (unsigned_abs x.s) && (is_amount (unsigned_abs x.t) && (is_amount (unsigned_abs x.p) && true))) h in
    let b = both_parts (is_amount (unsigned_abs x.s)) (is_amount (unsigned_abs x.t) && (is_amount (unsigned_abs x.p) && true)) a.1 in
    let d = both_parts (is_amount (unsigned_abs x.t)) (is_amount (unsigned_abs x.p) && true) b.1 in
    let e = both_parts (is_amount (unsigned_abs x.p)) true d.1 in
    record {
      reward = leb_is (unsigned_abs x.r) 1000000 a.0;
      sucker = leb_is (unsigned_abs x.s) 1000000 b.0;
      temptation = leb_is (unsigned_abs x.t) 1000000 d.0;
      punishment = leb_is (unsigned_abs x.p) 1000000 e.0;
    }

pub near_is : (x : ShownGame) → are_near x ≡ true → IsGame (raised_game x)
near_is x h =
    let g = raised_game x in
    let a = both_parts (is_small g.r && is_small g.s) (is_small g.t && is_small g.p) h in
    let b = both_parts (is_small g.r) (is_small g.s) a.0 in
    let d = both_parts (is_small g.t) (is_small g.p) a.1 in
    record { reward = leb_is g.r 1000000 b.0; sucker = leb_is g.s 1000000 b.1; temptation = leb_is g.t 1000000 d.0; punishment = leb_is g.p 1000000 d.1 }

-- the payoff and the offset, each side without a number below 0
raised_is : (offset : ℕ) (payoff : ℤ) → below payoff ≤ offset → raised offset payoff + below payoff ≡ magnitude payoff + offset
raised_is offset (pos n) enough = omega arith
raised_is offset (negsuc n) enough =
    let back = magnitude_back (negsuc n +ℤ pos offset) (omega (arith, ints)) in
    omega (arith, ints, back)

-- what the offset raises to 0, or what lies higher
at_bottom : (offset : ℕ) (payoff : ℤ) → below payoff ≤ offset → 0 < offset → (raised offset payoff ≡ 0) ⊎ (below payoff < offset)
at_bottom offset (pos n) enough some = inr (omega arith)
at_bottom offset (negsuc n) enough some =
    elim (cases_order offset (n + 1)) [
      | inl same ↦ inl (omega (arith, raised_is offset (negsuc n) enough))
      | inr (inl before) ↦ absurd (omega arith)
      | inr (inr behind) ↦ inr (omega arith)
    ]

low_least : (offset : ℕ) (r s t p : ℤ) → offset ≡ max (max (max (below r) (below s)) (below t)) (below p) → 0 < offset
    → min (min (min (raised offset r) (raised offset s)) (raised offset t)) (raised offset p) ≡ 0
low_least offset r s t p is some =
    elim (at_bottom offset r (omega arith) some) [
      | inl low ↦ omega arith
      | inr r_higher ↦ elim (at_bottom offset s (omega arith) some) [
        | inl low ↦ omega arith
        | inr s_higher ↦ elim (at_bottom offset t (omega arith) some) [
          | inl low ↦ omega arith
          | inr t_higher ↦ elim (at_bottom offset p (omega arith) some) [
            | inl low ↦ omega arith
            | inr p_higher ↦ absurd (omega arith)
          ]
        ]
      ]
    ]

below_few : (payoff : ℤ) → unsigned_abs payoff ≤ 1000000 → below payoff ≤ 1000000
below_few (pos n) h = omega arith
below_few (negsuc n) h = omega (arith, h)

pub offset_is : (x : ShownGame) → is_game x ≡ true → IsOffset (raised_game x) (offset_of x)
offset_is x h =
    let a = amounts_are x h in
    record {
      few = omega (arith, below_few x.r a.reward, below_few x.s a.sucker, below_few x.t a.temptation, below_few x.p a.punishment);
      least = λ some. low_least (offset_of x) x.r x.s x.t x.p refl some;
    }

shown_one : (offset : ℕ) (payoff : ℤ) → below payoff ≤ offset → less offset (raised offset payoff) ≡ payoff
shown_one offset (pos n) enough = let back = magnitude_back (pos n +ℤ pos offset) (omega (arith, ints)) in omega (arith, ints, back)
shown_one offset (negsuc n) enough = let back = magnitude_back (negsuc n +ℤ pos offset) (omega (arith, ints)) in omega (arith, ints, back)

abbrev four : ℤ → ℤ → ℤ → ℤ → ShownGame
four r s t p = record { r = r; s = s; t = t; p = p }

same_four : (r s t p a b c d : ℤ) → r ≡ a → s ≡ b → t ≡ c → p ≡ d → four r s t p ≡ four a b c d
same_four r s t p a b c d i j k l = cc

-- the line shows the raised payoffs less the offset
pub shown_again : (x : ShownGame) → shown_game (offset_of x) (raised_game x) ≡ x
shown_again x =
    let o = offset_of x in
    same_four _ _ _ _ x.r x.s x.t x.p (shown_one o x.r (omega arith)) (shown_one o x.s (omega arith)) (shown_one o x.t (omega arith)) (shown_one o x.p (omega arith))

-- ---- and back

below_less : (offset payoff : ℕ) → below (less offset payoff) ≡ offset - payoff
below_less offset payoff =
    elim (cases_order offset payoff) [
      | inl same ↦ let is : less offset payoff ≡ pos 0 = omega (arith, ints) in ap below is ∙ omega arith
      | inr (inl before) ↦ let is : less offset payoff ≡ pos (payoff - offset) = omega (arith, ints) in ap below is ∙ omega arith
      | inr (inr behind) ↦ let is : less offset payoff ≡ negsuc (offset - payoff - 1) = omega (arith, ints) in ap below is ∙ omega arith
    ]

abs_less : (offset payoff : ℕ) → offset ≤ 1000000 → payoff ≤ 1000000 → unsigned_abs (less offset payoff) ≤ 1000000
abs_less offset payoff h k =
    elim (cases_order offset payoff) [
      | inl same ↦ let is : less offset payoff ≡ pos 0 = omega (arith, ints) in omega (arith, ap unsigned_abs is)
      | inr (inl before) ↦ let is : less offset payoff ≡ pos (payoff - offset) = omega (arith, ints) in omega (arith, ap unsigned_abs is)
      | inr (inr behind) ↦ let is : less offset payoff ≡ negsuc (offset - payoff - 1) = omega (arith, ints) in omega (arith, ap unsigned_abs is)
    ]

amount_back : (offset payoff : ℕ) → offset ≤ 1000000 → payoff ≤ 1000000 → is_amount (unsigned_abs (less offset payoff)) ≡ true
amount_back offset payoff h k = leb_back (unsigned_abs (less offset payoff)) 1000000 (abs_less offset payoff h k)

pub game_back : (game : Payoffs) (offset : ℕ) → IsGame game → IsOffset game offset → is_game (shown_game offset game) ≡ true
game_back game offset g o =
    rw (amount_back offset game.r o.few g.reward, amount_back offset game.s o.few g.sucker, amount_back offset game.t o.few g.temptation, amount_back offset game.p o.few g.punishment) refl

least_of_two : (offset a b : ℕ) → max (offset - a) (offset - b) ≡ offset - min a b
least_of_two offset a b = omega arith

less_none : (offset low : ℕ) → (0 < offset → low ≡ 0) → offset - low ≡ offset
less_none offset low bottom =
    elim (cases_order offset 0) [
      | inl none ↦ omega arith
      | inr (inl before) ↦ absurd (omega arith)
      | inr (inr some) ↦ let is = bottom some in omega (arith, is)
    ]

max_is : (offset r s t p : ℕ) → (0 < offset → min (min (min r s) t) p ≡ 0) → max (max (max (offset - r) (offset - s)) (offset - t)) (offset - p) ≡ offset
max_is offset r s t p bottom =
    ap (λ (n : ℕ). max (max n (offset - t)) (offset - p)) (least_of_two offset r s)
    ∙ ap (λ (n : ℕ). max n (offset - p)) (least_of_two offset (min r s) t)
    ∙ least_of_two offset (min (min r s) t) p
    ∙ less_none offset (min (min (min r s) t) p) bottom

pub offset_back : (game : Payoffs) (offset : ℕ) → IsOffset game offset → offset_of (shown_game offset game) ≡ offset
offset_back game offset o =
    rw (below_less offset game.r, below_less offset game.s, below_less offset game.t, below_less offset game.p) (max_is offset game.r game.s game.t game.p o.least)

raised_one : (offset payoff : ℕ) → raised offset (less offset payoff) ≡ payoff
raised_one offset payoff =
    let is : less offset payoff +ℤ pos offset ≡ pos payoff = omega (arith, ints) in
    ap magnitude is

abbrev four_raised : ℕ → ShownGame → Payoffs
four_raised offset x = record { r = raised offset x.r; s = raised offset x.s; t = raised offset x.t; p = raised offset x.p }

abbrev game_with : ℕ → ℕ → ℕ → ℕ → Payoffs
game_with r s t p = record { r = r; s = s; t = t; p = p }

same_game : (r s t p a b c d : ℕ) → r ≡ a → s ≡ b → t ≡ c → p ≡ d → game_with r s t p ≡ game_with a b c d
same_game r s t p a b c d i j k l = cc

pub raised_back : (game : Payoffs) (offset : ℕ) → IsOffset game offset → raised_game (shown_game offset game) ≡ game
raised_back game offset o =
    ap (λ (n : ℕ). four_raised n (shown_game offset game)) (offset_back game offset o)
    ∙ same_game _ _ _ _ game.r game.s game.t game.p (raised_one offset game.r) (raised_one offset game.s) (raised_one offset game.t) (raised_one offset game.p)

pub near_back : (game : Payoffs) (offset : ℕ) → IsGame game → IsOffset game offset → are_near (shown_game offset game) ≡ true
near_back game offset g o =
    ap (λ (h : Payoffs). (is_small h.r && is_small h.s) && (is_small h.t && is_small h.p)) (raised_back game offset o)
    ∙ rw (leb_back game.r 1000000 g.reward, leb_back game.s 1000000 g.sucker, leb_back game.t 1000000 g.temptation, leb_back game.p 1000000 g.punishment) refl

-- ---- the same of the game that the code makes

fits : (payoff : ℤ) → unsigned_abs payoff ≤ 1000000 → FitsSigned w64 payoff
fits (pos n) h = omega (arith, ints, h)
fits (negsuc n) h = omega (arith, ints, h)

passed : (offset found : ℕ) (payoff : ℤ) → unsigned_abs payoff ≤ 1000000 → found ≡ raised offset (to_z w64 (of_z w64 payoff)) → found ≡ raised offset payoff
passed offset found payoff h is = rw (to_z-of_z w64 payoff (fits payoff h)) at is

pub made_is : (x : ShownGame) (offset r s t p : ℕ) → is_game x ≡ true → offset ≡ offset_of x
    → r ≡ raised offset (to_z w64 (of_z w64 x.r)) → s ≡ raised offset (to_z w64 (of_z w64 x.s))
    → t ≡ raised offset (to_z w64 (of_z w64 x.t)) → p ≡ raised offset (to_z w64 (of_z w64 x.p))
    → record { r = r; s = s; t = t; p = p } ≡ raised_game x
made_is x offset r s t p h is ra sa ta pa =
    let a = amounts_are x h in
    rw (passed offset r x.r a.reward ra, passed offset s x.s a.sucker sa, passed offset t x.t a.temptation ta, passed offset p x.p a.punishment pa, is) refl

pub made_game : (x : ShownGame) (game : Payoffs) → game ≡ raised_game x → are_near x ≡ true → IsGame game
made_game x game is near = rw is (near_is x near)
