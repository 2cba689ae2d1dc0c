-- Texts of pieces, up to a place and from it on.
use Rattle.std.proofs.Common.{arith, ◌≡◌, ℕ, suc, zero, ◌+◌, ◌<◌, List, [], ◌∷◌, ◌++◌, Option, length, take, drop, get_or, ap, refl, append_assoc, append-nil, length-append}
use Rattle.std.proofs.lemmas.List.{take-append-le}
use Rattle.std.proofs.Math.Seq.{take-append-add}
use Rattle.refusals.specs.declared.piece.Piece.{Piece}
use Rattle.lab_ports.specs.Holding.{Grew, GrewByPart}
use Rattle.refusals.specs.Piece.{piece_text, joined}
use Rattle.lab_ports.proofs.Grown.{grew_more}

-- the pieces before a place, the piece there and those behind it
joined_split : (ps : List Piece) (i : ℕ) (d : Piece) → i < length ps
    → joined ps ≡ joined (take i ps) ++ (piece_text (get_or ps i d) ++ joined (drop (suc i) ps))
joined_split [] i d h = absurd (omega (arith, h))
joined_split (p ∷ ps) zero d h = refl
joined_split (p ∷ ps) (suc i) d h =
    rw (append_assoc (piece_text p) (joined (take i ps)) _)
    (ap (λ t. piece_text p ++ t) (joined_split ps i d (omega (arith, h))))

-- one piece more
joined_next : (ps : List Piece) (i : ℕ) (d : Piece) → i < length ps
    → joined (take (suc i) ps) ≡ joined (take i ps) ++ piece_text (get_or ps i d)
joined_next [] i d h = absurd (omega (arith, h))
joined_next (p ∷ ps) zero d h = append-nil (piece_text p)
joined_next (p ∷ ps) (suc i) d h =
    rw (append_assoc (piece_text p) (joined (take i ps)) _)
    (ap (λ t. piece_text p ++ t) (joined_next ps i d (omega (arith, h))))

-- all pieces before a place, and then the piece there
pub joined_more : (a b c : Option (List ℕ)) (ps : List Piece) (i : ℕ) (d : Piece) → i < length ps
    → Grew a b (joined (take i ps)) → Grew b c (piece_text (get_or ps i d)) → Grew a c (joined (take (i + 1) ps))
joined_more a b c ps i d h first more =
    let next : i + 1 ≡ suc i = omega arith in
    rw (next, joined_next ps i d h) (grew_more a b c _ _ first more)

-- a text, and then a part of the next one
grew_into : (a b c : Option (List ℕ)) (xs ys zs : List ℕ) → Grew a b xs → GrewByPart b c ys
    → GrewByPart a c (xs ++ (ys ++ zs))
grew_into a b c xs ys zs first part = (
  length xs + part.0,
  omega (arith, part.1, length-append xs (ys ++ zs), length-append ys zs),
  rw (take-append-add xs (ys ++ zs) part.0, take-append-le part.0 ys zs (omega (arith, part.1)))
      (grew_more a b c xs (take part.0 ys) first part.2),
)

-- all pieces before a place, and then a part of the piece there
pub joined_part : (a b c : Option (List ℕ)) (ps : List Piece) (i : ℕ) (d : Piece) → i < length ps
    → Grew a b (joined (take i ps)) → GrewByPart b c (piece_text (get_or ps i d)) → GrewByPart a c (joined ps)
joined_part a b c ps i d h first part =
    rw (joined_split ps i d h) (grew_into a b c _ _ _ first part)
