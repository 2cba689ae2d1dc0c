-- Edges, each of which joins two entries that no earlier one joins.
use Rattle.std.proofs.Common.{◌≡◌, ◌≢◌, ℕ, ◌+◌, ◌*◌, ◌<◌, ◌≤◌, ◌==◌, Bool, true, false, List, [], ◌∷◌, ◌++◌, length, map, get_or, sym, ◌∙◌, inl, inr, eqb, arith}
use Rattle.std.proofs.lemmas.Bool.{cases_Bool, eqb-true, eq-eqb, ne_eqb, or_parts, eqb-false}
use Rattle.std.proofs.lemmas.List.{get_or-map, length-map}
use Rattle.std.proofs.lemmas.List.Elements.{All-push}
use Rattle.std.proofs.lemmas.List.Folds.{list_any_at, Any-from_list_any}
use Rattle.std.proofs.lemmas.List.Quantifiers.{all_pairs_push}
use Rattle.std.proofs.lemmas.Map.Keys.{IsDistinct-from_apart}
use Rattle.std.proofs.lemmas.Map.Steps.{length-le_from_distinct_below}
use Rattle.std.proofs.lemmas.Nat.{mul-add-lt, same_from_place}
use Rattle.std.proofs.Math.Nat.{mul-le-mul_left}
use Rattle.std.specs.List.{list_any}
use Rattle.job_tables.specs.declared.tournament.Edge.{Edge}
use Rattle.job_tables.specs.Jobs.{AreEdges}
use Rattle.job_tables.specs.JobsOf.{is_doubled}
use Rattle.job_tables.specs.Tournament.{joins}

-- what passes nowhere fails at each place
pub none_at : {X : Type 0} (test : X → Bool) (xs : List X) (k : ℕ) (d : X) → list_any test xs ≡ false → k < length xs → test (get_or xs k d) ≡ false
none_at test xs k d none inside =
    elim (cases_Bool (test (get_or xs k d))) [
      | inl on ↦ let some : list_any test xs ≡ true = list_any_at test xs k d inside on in absurd (cc)
      | inr off ↦ off
    ]

pub edge_push : (count : ℕ) (edges : List Edge) (edge : Edge) → AreEdges count edges → edge.left < count → edge.right < count
    → is_doubled edges edge.left edge.right ≡ false → AreEdges count (edges ++ edge ∷ [])
edge_push count edges edge sound left right new =
    let parts = or_parts (edge.left == edge.right) (list_any (joins edge.left edge.right) edges) new in record {
      left = All-push (λ (e : Edge). e.left < count) edges edge sound.left left;
      right = All-push (λ (e : Edge). e.right < count) edges edge sound.right right;
      apart = All-push (λ (e : Edge). e.left ≢ e.right) edges edge sound.apart (eqb-false edge.left edge.right parts.0);
      differ = all_pairs_push (λ (e later : Edge). joins later.left later.right e ≡ false) edges edge sound.differ
          (λ k d inside. none_at (joins edge.left edge.right) edges k d parts.1 inside);
    }

nowhere : Edge
nowhere = record { left = 0; right = 0 }

-- the field of an edge in the square of all pairs
abbrev field_of : ℕ → Edge → ℕ
field_of count edge = edge.left * count + edge.right

same_field : (count : ℕ) (edge later : Edge) → edge.right < count → later.right < count → joins later.left later.right edge ≡ false
    → (field_of count edge == field_of count later) ≡ false
same_field count edge later low high apart =
    ne_eqb (field_of count edge) (field_of count later)
    (λ same.
    let parts = same_from_place edge.left edge.right later.left later.right count low high same in
    let left : (edge.left == later.left) ≡ true = eq-eqb edge.left later.left parts.0 in
    let right : (edge.right == later.right) ≡ true = eq-eqb edge.right later.right parts.1 in
    let joined : joins later.left later.right edge ≡ true = rw (left, right) in
    absurd (cc))

field_at : (count : ℕ) (edges : List Edge) (k d : ℕ) (e : Edge) → k < length edges → get_or (map (field_of count) edges) k d ≡ field_of count (get_or edges k e)
field_at count edges k d e inside = get_or-map (field_of count) edges k e d inside

in_square : (count : ℕ) (edges : List Edge) → AreEdges count edges → (field : ℕ) → list_any (eqb field) (map (field_of count) edges) ≡ true → field < count * count
in_square count edges sound field some =
    let found = Any-from_list_any (eqb field) (map (field_of count) edges) some in
    let inside : found.0 < length edges = omega (arith, found.2, length-map edges (field_of count)) in
    let edge = get_or edges found.0 nowhere in
    let here : found.1 ≡ field_of count edge = sym found.3 ∙ field_at count edges found.0 found.1 nowhere inside in
    let below : edge.left * count + edge.right < count * count = mul-add-lt edge.left count edge.right count (sound.left found.0 nowhere inside) (sound.right found.0 nowhere inside) in
    omega (arith, here, below, eqb-true field found.1 found.4)

-- no more edges than pairs
pub few_edges : (count : ℕ) (edges : List Edge) → AreEdges count edges → count ≤ 64 → length edges ≤ 4096
few_edges count edges sound few =
    let distinct = IsDistinct-from_apart eqb (map (field_of count) edges)
    (λ i j d before inside.
    let within : j < length edges = omega (arith, inside, length-map edges (field_of count)) in
    let low : i < length edges = omega arith in
    let at_i = field_at count edges i d nowhere low in
    let at_j = field_at count edges j d nowhere within in
    rw (at_i, at_j) (same_field count (get_or edges i nowhere) (get_or edges j nowhere) (sound.right i nowhere low) (sound.right j nowhere within) (sound.differ i j nowhere before within))) in
    let counted = length-le_from_distinct_below (map (field_of count) edges) (count * count) distinct (in_square count edges sound) in
    omega (arith, counted, length-map edges (field_of count), mul-le-mul_left count few, mul-le-mul_left 64 few)
