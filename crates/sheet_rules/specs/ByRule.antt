-- Histories that are played by rules alone.
use Rattle.std.specs.Prelude.{ℕ, ◌≡◌, ◌++◌, ◌∷◌, length}
use Rattle.history_model.specs.declared.moves.Move.{Move}
use Rattle.history_model.specs.declared.moves.Move.TheVariants.{C, D}
use Rattle.history_model.specs.declared.moves.Play.{Play}
use Rattle.history_model.specs.Expectation.{Chooser}
use Rattle.history_model.specs.History.{History, turned}

-- a move that a weight over a denominator leaves no choice of: C at the whole, D at 0
abbrev pub IsForced : ℕ → ℕ → Move → Type 0
IsForced den weight C = weight ≡ den
IsForced den weight D = weight ≡ 0

-- so many plays, in which both players make the move that their rules force after the plays before
pub record IsByRules (a b : Chooser) (n : ℕ) (history : History) : Type 0 where
  pub length_is : length history ≡ n
  pub moves : (before : History) (play : Play) (after : History) → history ≡ before ++ play ∷ after
      → IsForced a.den (a.weight before) play.mine × IsForced b.den (b.weight (turned before)) play.theirs

-- the one such history
pub record IsOnlyByRules (a b : Chooser) (n : ℕ) (history : History) : Type 0 where
  pub by_rules : IsByRules a b n history
  pub only : (other : History) → IsByRules a b n other → other ≡ history
