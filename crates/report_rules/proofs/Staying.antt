-- Lines show the names that they showed, while names grow.
use Rattle.std.proofs.Common.{◌≡◌, ℕ, ◌<◌, List, [], ◌∷◌, ◌++◌, length, map, refl, ap, arith}
use Rattle.std.specs.List.{All}
use Rattle.result_lines.specs.declared.line.MatchLine.{MatchLine}
use Rattle.result_lines.specs.declared.tables.EntryLine.{EntryLine}
use Rattle.report_names.specs.Names.{name_at}
use Rattle.report_names.proofs.Growth.{Grows, all_head, all_tail}
use Rattle.report_rules.specs.declared.report.Head.{Head}
use Rattle.report_rules.specs.Text.{shown_match, match_lines, entry_lines}
use Rattle.report_rules.specs.Valid.{IsMatchOf, match_names}

match_stays : (names more : List (List ℕ)) → Grows names more → (count : ℕ) (head : Head) (line : MatchLine) → count ≡ length names → IsMatchOf count head line → shown_match more line ≡ shown_match names line
match_stays names more g count head line e v = rw (g.stays line.left (omega (arith, e, v.left)), g.stays line.right (omega (arith, e, v.right))) refl

pub matches_stay : (names more : List (List ℕ)) → Grows names more → (head : Head) (ms : List MatchLine) → All (IsMatchOf (length names) head) ms → match_lines more ms ≡ match_lines names ms
matches_stay names more g head [] all = refl
matches_stay names more g head (m ∷ ms) all =
    rw (
      match_stays names more g (length names) head m refl (all_head (IsMatchOf (length names) head) m ms all),
      matches_stay names more g head ms (all_tail (IsMatchOf (length names) head) m ms all),
    ) refl

pub match_names_stay : (names more : List (List ℕ)) → Grows names more → (head : Head) (ms : List MatchLine) → All (IsMatchOf (length names) head) ms → match_names more ms ≡ match_names names ms
match_names_stay names more g head [] all = refl
match_names_stay names more g head (m ∷ ms) all =
    let v = all_head (IsMatchOf (length names) head) m ms all in
    rw (g.stays m.left v.left, g.stays m.right v.right, match_names_stay names more g head ms (all_tail (IsMatchOf (length names) head) m ms all)) refl

abbrev IsBelow : ℕ → ℕ → Type 0
IsBelow count place = place < count

pub who_stay : (names more : List (List ℕ)) → Grows names more → (who : List ℕ) → All (IsBelow (length names)) who → map (name_at more) who ≡ map (name_at names) who
who_stay names more g [] all = refl
who_stay names more g (p ∷ ps) all =
    rw (g.stays p (all_head (IsBelow (length names)) p ps all), who_stay names more g ps (all_tail (IsBelow (length names)) p ps all)) refl

pub entries_stay : (names more : List (List ℕ)) → Grows names more → (who : List ℕ) (es : List EntryLine) → All (IsBelow (length names)) who → entry_lines more who es ≡ entry_lines names who es
entries_stay names more g [] [] all = refl
entries_stay names more g [] (e ∷ es) all = refl
entries_stay names more g (p ∷ ps) [] all = refl
entries_stay names more g (p ∷ ps) (e ∷ es) all =
    rw (g.stays p (all_head (IsBelow (length names)) p ps all), entries_stay names more g ps es (all_tail (IsBelow (length names)) p ps all)) refl

pub match_names_then : (names : List (List ℕ)) (ms ns : List MatchLine) → match_names names (ms ++ ns) ≡ match_names names ms ++ match_names names ns
match_names_then names [] ns = refl
match_names_then names (m ∷ ms) ns = ap (λ (xs : List (List ℕ)). name_at names m.left ∷ name_at names m.right ∷ xs) (match_names_then names ms ns)
