-- The text of pieces.
use Rattle.std.proofs.Common.{arith, ◌≡◌, ℕ, List, [], ◌∷◌, ◌++◌, length, get_or, refl, append_assoc, append-nil}
use Rattle.refusals.specs.declared.piece.Piece.{Piece}
use Rattle.refusals.specs.Piece.{piece_text, joined}

-- six pieces, taken apart
pub joined_six : (ps : List Piece) (x : Piece) (more : List ℕ) → length ps ≡ 6
    → piece_text (get_or ps 0 x) ++ (piece_text (get_or ps 1 x) ++ (piece_text (get_or ps 2 x) ++ (piece_text (get_or ps 3 x) ++ (piece_text (get_or ps 4 x) ++ (piece_text (get_or ps 5 x) ++ more))))) ≡ joined ps ++ more
joined_six (a ∷ b ∷ c ∷ d ∷ e ∷ f ∷ []) x more h = simp (append_assoc, append-nil) refl
joined_six _ x more h = absurd (omega (arith, h))
