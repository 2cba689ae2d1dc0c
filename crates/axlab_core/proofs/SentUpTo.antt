-- What a sink has taken of a text that is sent by pieces.
use Rattle.std.proofs.Common.{◌≡◌, ℕ, ◌+◌, ◌≤◌, ◌<◌, min, Bool, true, false, List, [], ◌∷◌, ◌++◌, length, take, drop, Option, Some, None, refl, sym, ◌∙◌, ap, arith}
use Rattle.std.specs.Prelude.{◌↔◌}
use Rattle.std.proofs.Math.Seq.{take-add}
use Rattle.std.proofs.lemmas.List.{length-take, length-drop, take-take, drop-drop, take-append-drop}
use Rattle.lab_ports.specs.Causes.{Rose}
use Rattle.lab_ports.specs.Holding.{Grew, GrewByPart, GrowthAddsUp}
use Rattle.axlab_core.specs.Output.{GrewByFront}

-- the sink took the first n of the bytes, and these are to come
pub record IsSentUpTo (n : ℕ) (before now : Option (List ℕ)) (text to_come : List ℕ) : Type 0 where
  pub took : Grew before now (take n text)
  pub left : to_come ≡ drop n text

append_nothing : (xs : List ℕ) → xs ++ [] ≡ xs
append_nothing [] = refl
append_nothing (x ∷ xs) = ap (λ ys. x ∷ ys) (append_nothing xs)

-- so far none
pub none_sent : (before : Option (List ℕ)) (text : List ℕ) → IsSentUpTo 0 before before text text
none_sent None text = record { took = refl; left = refl }
none_sent (Some taken) text = record { took = ap Some (sym (append_nothing taken)); left = refl }

-- one piece more
pub piece_sent : GrowthAddsUp → (n : ℕ) (before mid now : Option (List ℕ)) (text to_come left piece : List ℕ) → IsSentUpTo n before mid text to_come
    → piece ≡ take 4096 to_come → left ≡ drop 4096 to_come → Grew mid now piece → IsSentUpTo (n + 4096) before now text left
piece_sent adds_up n before mid now text to_come left piece so_far front rest took =
    let whole : take (n + 4096) text ≡ take n text ++ piece
    = take-add n 4096 text ∙ ap (λ xs. take n text ++ xs) (sym (front ∙ ap (take 4096) so_far.left)) in
    record {
      took = rw whole (adds_up before mid now (take n text) piece so_far.took took);
      left = rest ∙ ap (drop 4096) so_far.left ∙ drop-drop 4096 n text;
    }

-- nothing is to come
pub all_sent : (n : ℕ) (before now : Option (List ℕ)) (text to_come : List ℕ) → IsSentUpTo n before now text to_come → to_come ≡ [] → Grew before now text
all_sent n before now text to_come so_far none =
    let empty : drop n text ≡ [] = sym so_far.left ∙ none in
    let whole : take n text ≡ text = sym (append_nothing (take n text)) ∙ ap (λ xs. take n text ++ xs) (sym empty) ∙ take-append-drop n text in
    rw whole at so_far.took

-- a part of the piece
pub part_sent : GrowthAddsUp → (n : ℕ) (before mid now : Option (List ℕ)) (text to_come piece : List ℕ) → IsSentUpTo n before mid text to_come
    → piece ≡ take 4096 to_come → GrewByPart mid now piece → GrewByPart before now text
part_sent adds_up n before mid now text to_come piece so_far front part =
    let k = part.0 in
    let rest : List ℕ = drop n text in
    let is : piece ≡ take 4096 rest = front ∙ ap (take 4096) so_far.left in
    let many : length piece ≡ min 4096 (length rest) = ap length is ∙ length-take 4096 rest in
    let inside : k < length piece = part.1 in
    let shorter : take k piece ≡ take k rest = ap (take k) is ∙ take-take k 4096 rest (omega (arith, many, inside)) in
    let whole : take (n + k) text ≡ take n text ++ take k piece = take-add n k text ∙ ap (λ xs. take n text ++ xs) (sym shorter) in
    (n + k, omega (arith, inside, many, length-drop n text), rw whole (adds_up before mid now (take n text) (take k piece) so_far.took part.2))

-- a front part, where memory is wanted
pub front_sent : (n : ℕ) (before now : Option (List ℕ)) (text to_come : List ℕ) → IsSentUpTo n before now text to_come → GrewByFront before now text
front_sent n before now text to_come so_far = (n, so_far.took)

-- less is to come where there was a piece
pub less_to_come : (some : Bool) (to_come left : List ℕ) → some ≡ true → (some ≡ false) ↔ (to_come ≡ []) → left ≡ drop 4096 to_come → length left < length to_come
less_to_come some [] left is none rest = absurd (not_both some is (none.1 refl)) where
  not_both : (b : Bool) → b ≡ true → b ≡ false → ⊥
  not_both true e f = absurd cc
  not_both false e f = absurd cc
less_to_come some (x ∷ xs) left is none rest = omega (arith, ap length rest, length-drop 4096 (x ∷ xs))

-- a count that rose in the last of some calls rose in all of them
pub rose_since : (first before now : ℕ) → first ≤ before → Rose before now → Rose first now
rose_since first before now later rose = omega (arith, later, rose)
