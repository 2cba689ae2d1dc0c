-- Players that are read: what they were asked, and what they expect.
use Rattle.std.proofs.Common.{ℕ, ◌≡◌, ◌+◌, ◌*◌, ◌≤◌, List, length, inl, inr, subst, arith}
use Rattle.std.specs.List.{sum}
use Rattle.history_model.specs.Automaton.{Automaton}
use Rattle.history_model.specs.Game.{Payoffs}
use Rattle.history_model.specs.Noise.{FlipRate}
use Rattle.result_lines.specs.declared.line.MatchLine.{MatchLine}
use Rattle.match_play.specs.Fresh.{IsFresh}
use Rattle.match_play.specs.Match.{AdvancedAtMost}
use Rattle.player_core.specs.State.{BenchState}
use Rattle.player_core.specs.Counts.{Grew}
use Rattle.product_chain.specs.Expected.{IsSureMatch}
use Rattle.round_robin.specs.Asked.{Turns, MadeTurns, IsAsked, AtMostTurns, bench_turns, most_advances}
use Rattle.round_robin.specs.Line.{IsExpected, IsMixed}

made_turns : (m n : ℕ) (before now : Turns) → Grew (4 * m) before.left now.left → Grew (4 * n) before.right now.right
    → MadeTurns (4 * (m + n)) before now
made_turns m n before now left right =
    elim left.total [
      | inl more ↦ elim right.total [
        | inl more' ↦ inl (omega arith)
        | inr full ↦ inr (inr full)
      ]
      | inr full ↦ inr (inl full)
    ]

-- a side made n advances
at_most : (n most : ℕ) (old new : List ℕ) → n ≤ most → Grew n old new → sum new ≤ sum old + most
at_most n most old new few grew = omega (arith, few, grew.most)

both_made : (j steps : ℕ) (before now : Turns) → j ≤ steps → Grew steps before.left now.left → Grew steps before.right now.right → MadeTurns (2 * j) before now
both_made j steps before now fresh left right =
    elim left.total [
      | inl more ↦ elim right.total [
        | inl more' ↦ inl (omega (arith, more, more', fresh))
        | inr full ↦ inr (inr full)
      ]
      | inr full ↦ inr (inl full)
    ]

-- a sure match, in which both sides made as many advances
pub asked_by_playing : (a : Automaton) (na : FlipRate) (b : Automaton) (nb : FlipRate) (turns steps : ℕ) (before now : Turns)
    → IsSureMatch a na b nb → steps ≤ 2 * (length a.rows * length b.rows) → ((j : ℕ) → IsFresh a b turns j → j ≤ steps)
    → Grew steps before.left now.left → Grew steps before.right now.right → IsAsked a na b nb turns before now
asked_by_playing a na b nb turns steps before now sure within fresh left right = record {
  played = λ s j new. both_made j steps before now (fresh j new) left right;
  read = λ unsure. absurd (unsure sure);
  most = record {
    left = at_most steps (most_advances a b) before.left now.left (omega (arith, within)) left;
    right = at_most steps (most_advances a b) before.right now.right (omega (arith, within)) right;
  };
}

pub asked_by_reading : (a : Automaton) (na : FlipRate) (b : Automaton) (nb : FlipRate) (turns : ℕ) (before now : Turns)
    → (IsSureMatch a na b nb → ⊥) → Grew (4 * length a.rows) before.left now.left
    → Grew (4 * length b.rows) before.right now.right → IsAsked a na b nb turns before now
asked_by_reading a na b nb turns before now unsure left right = record {
  played = λ sure. absurd (unsure sure);
  read = λ unsure. made_turns (length a.rows) (length b.rows) before now left right;
  most = record {
    left = at_most (4 * length a.rows) (most_advances a b) before.left now.left (omega arith) left;
    right = at_most (4 * length b.rows) (most_advances a b) before.right now.right (omega arith) right;
  };
}

-- what the read automata expect, where these are the sides' own
pub mixed_by_reading : (a a' : Automaton) (na : FlipRate) (b b' : Automaton) (nb : FlipRate) (game : Payoffs) (n : ℕ) (line : MatchLine)
    → a ≡ a' → b ≡ b' → (IsSureMatch a' na b' nb → ⊥) → IsExpected a na b nb game n line.left_score → IsExpected b nb a na game n line.right_score
    → IsMixed a' na b' nb game n line
mixed_by_reading a a' na b b' nb game n line same_left same_right unsure left right =
    let P : Automaton → Type 0 = λ x. IsExpected x na b nb game n line.left_score in
    let Q : Automaton → Type 0 = λ y. IsExpected a' na y nb game n line.left_score in
    let S : Automaton → Type 0 = λ y. IsExpected y nb a na game n line.right_score in
    let T : Automaton → Type 0 = λ x. IsExpected b' nb x na game n line.right_score in
    record {
      unsure = unsure;
      left = subst Q same_right (subst P same_left left);
      right = subst T same_left (subst S same_right right);
    }

-- ---- at most, whatever the answer

-- with m and n rows, a match that is played
pub at_most_by_playing : (m n : ℕ) (old new : BenchState) → AdvancedAtMost (2 * (m * n)) (2 * (m * n)) old new
    → AtMostTurns (2 * (m * n) + 4 * (m + n)) (bench_turns old) (bench_turns new)
at_most_by_playing m n old new few = record { left = omega (arith, few.left); right = omega (arith, few.right) }

-- and one that is read
pub at_most_by_reading : (m n : ℕ) (old new : BenchState) → AdvancedAtMost (4 * m) (4 * n) old new
    → AtMostTurns (2 * (m * n) + 4 * (m + n)) (bench_turns old) (bench_turns new)
at_most_by_reading m n old new few = record { left = omega (arith, few.left); right = omega (arith, few.right) }
