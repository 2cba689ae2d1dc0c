-- Text that is put together from pieces.
use Rattle.std.specs.Prelude.{ℕ, List, [], ◌∷◌, ◌++◌, decimal}
use Rattle.refusals.specs.declared.piece.Piece.{Piece}
use Rattle.refusals.specs.declared.piece.Piece.TheVariants.{Text, Number}

-- words as they are, and a number in decimal digits
abbrev pub piece_text : Piece → List ℕ
piece_text (Text words) = words.now
piece_text (Number n) = decimal n

-- the pieces one behind the other
abbrev pub joined : List Piece → List ℕ
joined [] = []
joined (piece ∷ rest) = piece_text piece ++ joined rest
