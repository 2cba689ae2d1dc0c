-- Payoffs raised by their offset.
use Rattle.std.proofs.Common.{◌≡◌, ◌⊎◌, ℕ, ◌+◌, ◌<◌, ◌≤◌, max, min, ℤ, pos, negsuc, ◌+ℤ◌, ◌≤ℤ◌, FitsSigned, to_z, of_z, w64, refl, inl, inr, arith}
use Rattle.std.proofs.lemmas.Bool.{cases_order}
use Rattle.std.proofs.lemmas.Int.{ints, to_z-of_z}
use Rattle.history_model.specs.Game.{Payoffs, magnitude, magnitude_back, least, most, IsGame}
use Rattle.game_file.specs.declared.game.FilePayoffs.{FilePayoffs}
use Rattle.game_file.specs.GameOf.{below, needed_offset, raised, raised_by, IsWithin, AreWithin, IsOffset}

-- the payoff and the offset, each side without a number below 0
raised_is : (offset : ℕ) (payoff : ℤ) → below payoff ≤ offset → raised offset payoff + below payoff ≡ magnitude payoff + offset
raised_is offset (pos n) enough = omega arith
raised_is offset (negsuc n) enough =
    let back = magnitude_back (negsuc n +ℤ pos offset) (omega (arith, ints)) in
    omega (arith, ints, back)

-- what the offset raises to 0, or what lies higher
at_bottom : (offset : ℕ) (payoff : ℤ) → below payoff ≤ offset → 0 < offset → (raised offset payoff ≡ 0) ⊎ (below payoff < offset)
at_bottom offset (pos n) enough some = inr (omega arith)
at_bottom offset (negsuc n) enough some =
    elim (cases_order offset (n + 1)) [
      | inl same ↦ inl (omega (arith, raised_is offset (negsuc n) enough))
      | inr (inl before) ↦ absurd (omega arith)
      | inr (inr behind) ↦ inr (omega arith)
    ]

low_least : (offset : ℕ) (r s t p : ℤ) → offset ≡ max (max (max (below r) (below s)) (below t)) (below p) → 0 < offset
    → min (min (min (raised offset r) (raised offset s)) (raised offset t)) (raised offset p) ≡ 0
low_least offset r s t p is some =
    elim (at_bottom offset r (omega arith) some) [
      | inl low ↦ omega arith
      | inr r_higher ↦ elim (at_bottom offset s (omega arith) some) [
        | inl low ↦ omega arith
        | inr s_higher ↦ elim (at_bottom offset t (omega arith) some) [
          | inl low ↦ omega arith
          | inr t_higher ↦ elim (at_bottom offset p (omega arith) some) [
            | inl low ↦ omega arith
            | inr p_higher ↦ absurd (omega arith)
          ]
        ]
      ]
    ]

pub raised_least : (file : FilePayoffs) → 0 < needed_offset file → least (raised_by (needed_offset file) file) ≡ 0
raised_least file some = low_least (needed_offset file) file.r file.s file.t file.p refl some

most_magnitude : (payoff : ℤ) → payoff ≤ℤ pos 1000000 → magnitude payoff ≤ 1000000
most_magnitude (pos n) within = omega (arith, ints)
most_magnitude (negsuc n) within = omega arith

-- a payoff with the offset, where near payoffs have the least one 0 or no offset
one_few : (offset low high : ℕ) (payoff : ℤ) → below payoff ≤ offset → payoff ≤ℤ pos 1000000 → raised offset payoff ≤ high
    → high ≤ low + 1000000 → (0 < offset → low ≡ 0) → raised offset payoff ≤ 1000000
one_few offset low high payoff enough within under near bottom =
    elim (cases_order offset 0) [
      | inl none ↦ omega (arith, raised_is offset payoff enough, most_magnitude payoff within)
      | inr (inl before) ↦ absurd (omega arith)
      | inr (inr some) ↦ omega (arith, bottom some)
    ]

few : (file : FilePayoffs) → AreWithin file → most (raised_by (needed_offset file) file) ≤ least (raised_by (needed_offset file) file) + 1000000
    → IsGame (raised_by (needed_offset file) file)
few file within near =
    let offset = needed_offset file in
    let game = raised_by offset file in
    let one : (payoff : ℤ) → below payoff ≤ offset → payoff ≤ℤ pos 1000000 → raised offset payoff ≤ most game → raised offset payoff ≤ 1000000 =
    λ payoff enough inside under. one_few offset (least game) (most game) payoff enough inside under near (raised_least file) in record {
      reward = one file.r (omega arith) within.reward.1 (omega arith);
      sucker = one file.s (omega arith) within.sucker.1 (omega arith);
      temptation = one file.t (omega arith) within.temptation.1 (omega arith);
      punishment = one file.p (omega arith) within.punishment.1 (omega arith);
    }

-- the same of the game that the code holds

fits : (payoff : ℤ) → IsWithin payoff → FitsSigned w64 payoff
fits payoff within = omega (arith, ints)

passed : (offset found : ℕ) (payoff : ℤ) → IsWithin payoff → found ≡ raised offset (to_z w64 (of_z w64 payoff)) → found ≡ raised offset payoff
passed offset found payoff within is = rw (to_z-of_z w64 payoff (fits payoff within)) at is

pub game_is : (file : FilePayoffs) (offset r s t p : ℕ) → AreWithin file → offset ≡ needed_offset file
    → r ≡ raised offset (to_z w64 (of_z w64 file.r)) → s ≡ raised offset (to_z w64 (of_z w64 file.s))
    → t ≡ raised offset (to_z w64 (of_z w64 file.t)) → p ≡ raised offset (to_z w64 (of_z w64 file.p))
    → record { r = r; s = s; t = t; p = p } ≡ raised_by (needed_offset file) file
game_is file offset r s t p within is ra sa ta pa =
    rw (passed offset r file.r within.reward ra, passed offset s file.s within.sucker sa, passed offset t file.t within.temptation ta, passed offset p file.p within.punishment pa, is) refl

pub near_game : (file : FilePayoffs) (game : Payoffs) → AreWithin file → game ≡ raised_by (needed_offset file) file → most game ≤ least game + 1000000 → IsGame game
near_game file game within is near = rw is (few file within (rw is at near))

pub offset_is : (file : FilePayoffs) (game : Payoffs) (offset : ℕ) → game ≡ raised_by (needed_offset file) file → offset ≡ needed_offset file → offset ≤ 1000000
    → IsOffset game offset
offset_is file game offset is found small = record { few = small; least = λ some. rw is (raised_least file (omega arith)) }
