-- The report that is made of a drill shows what it is told, and is valid.
use Rattle.std.proofs.Common.{◌≡◌, ℕ, zero, suc, ◌+◌, ◌^◌, ◌<◌, ◌≤◌, ℤ, List, [], ◌∷◌, ◌++◌, length, map, take, drop, get_or, refl, sym, ap, subst, ◌∙◌, add-one, drop-cons, arith}
use Rattle.std.specs.List.{All}
use Rattle.std.proofs.lemmas.List.{get_or_default, length-map, map-append, take_all, take_more}
use Rattle.std.proofs.lemmas.List.Elements.{All-head, All-map, All-nil, All-push, All-tail}
use Rattle.history_model.specs.Game.{Payoffs}
use Rattle.history_model.specs.Name.{IsName}
use Rattle.history_model.specs.Noise.{FlipRate, IsFlipRate, no_noise}
use Rattle.report_rules.specs.declared.report.Body.TheVariants as bodies
use Rattle.report_rules.specs.declared.report.Report.{Report}
use Rattle.report_names.specs.Names.{NamesGrow, name_at, with_name, with_names, place_in}
use Rattle.report_rules.specs.Valid.{IsFirstOf, IsTotal, IsValid, drill_game, first_names}
use Rattle.report_making.specs.Made.{ShowsFirst, drill_report_of, first_order, moved_first, moved_line}
use Rattle.report_making.proofs.Gathering.{holds_on}

-- ---- one machine after the other

-- the name of one machine more
pub first_more : (names order next all : List (List ℕ)) (first : List (ℕ × ℤ)) (k : ℕ) (d : ℕ × ℤ) (name : List ℕ) → k < length first
    → name ≡ get_or names (get_or first k d).0 name → (get_or first k d).0 < length names → next ≡ with_name order name
    → with_names order (first_names names (drop k first)) ≡ all → with_names next (first_names names (drop (k + 1) first)) ≡ all
first_more names order next all first k d name inside is below new so_far =
    let line : ℕ × ℤ = get_or first k d in
    let cut : drop k first ≡ line ∷ drop (k + 1) first = drop-cons first k d inside ∙ ap (λ (n : ℕ). line ∷ drop n first) (sym (add-one k)) in
    let here : name ≡ name_at names line.0 = is ∙ get_or_default names line.0 name [] below in
    ap (λ (ns : List (List ℕ)). with_names ns (first_names names (drop (k + 1) first))) new
    ∙ ap (λ (x : List ℕ). with_names (with_name order x) (first_names names (drop (k + 1) first))) here
    ∙ ap (λ (ls : List (ℕ × ℤ)). with_names order (first_names names ls)) (sym cut) ∙ so_far

pub named_more : (names : List (List ℕ)) (first : List (ℕ × ℤ)) (k : ℕ) (d : ℕ × ℤ) (name : List ℕ) → k < length first
    → name ≡ get_or names (get_or first k d).0 name → (get_or first k d).0 < length names → IsName name
    → All IsName (first_names names (take k first)) → All IsName (first_names names (take (k + 1) first))
named_more names first k d name inside is below one so_far =
    let line : ℕ × ℤ = get_or first k d in
    let here : name ≡ name_at names line.0 = is ∙ get_or_default names line.0 name [] below in
    let more : first_names names (take (k + 1) first) ≡ first_names names (take k first) ++ name_at names line.0 ∷ [] =
    ap (first_names names) (take_more first k d inside) ∙ map-append (λ (l : ℕ × ℤ). name_at names l.0) (take k first) (line ∷ []) in
    subst (All IsName) (sym more) (All-push IsName (first_names names (take k first)) (name_at names line.0) so_far (subst IsName here one))

pub all_named : (names : List (List ℕ)) (first : List (ℕ × ℤ)) (k : ℕ) → length first ≤ k → All IsName (first_names names (take k first)) → All IsName (first_names names first)
all_named names first k past so_far = subst (λ (ls : List (ℕ × ℤ)). All IsName (first_names names ls)) (take_all k first past) so_far

-- ---- machines with other places

totals_moved : (names order : List (List ℕ)) (first : List (ℕ × ℤ)) → map (λ line. line.1) (moved_first names order first) ≡ map (λ line. line.1) first
totals_moved names order [] = refl
totals_moved names order (line ∷ first) = ap (λ (us : List ℤ). line.1 ∷ us) (totals_moved names order first)

machines_moved : (names order : List (List ℕ)) (first : List (ℕ × ℤ)) → All (λ name. place_in order name < length order) (first_names names first) → All (IsFirstOf (length names)) first
    → All (IsFirstOf (length order)) (moved_first names order first)
machines_moved names order first inside machines =
    All-map (IsFirstOf (length order)) (moved_line names order) first (λ k d below.
    record { inside = placed names order first k d inside below; total = (machines k d below).total }) where
      placed : (names order : List (List ℕ)) (first : List (ℕ × ℤ)) (k : ℕ) (d : ℕ × ℤ) → All (λ name. place_in order name < length order) (first_names names first) → k < length first
          → place_in order (name_at names (get_or first k d).0) < length order
      placed names order [] k d inside below = absurd (omega (arith, below))
      placed names order (line ∷ first) zero d inside below = All-head (λ (name : List ℕ). place_in order name < length order) (name_at names line.0) (first_names names first) inside
      placed names order (line ∷ first) (suc k) d inside below =
          placed names order first k d (All-tail (λ (name : List ℕ). place_in order name < length order) (name_at names line.0) (first_names names first) inside) (omega (arith, below))

-- ---- a report whose parts are equal is equal

abbrev report_with : Payoffs → FlipRate → List FlipRate → List (List ℕ) → ℕ → List (ℕ × ℤ) → ℤ → Report
report_with game noise noises names number first sum =
    record { version = 1; offset = 0; game = game; noise = noise; noises = noises; names = names; body = bodies.Drill number first sum }

same_report : (g h : Payoffs) (n f : FlipRate) (a b : List FlipRate) (names order : List (List ℕ)) (number : ℕ) (first moved : List (ℕ × ℤ)) (u v : ℤ)
    → g ≡ h → n ≡ f → a ≡ b → names ≡ order → first ≡ moved → u ≡ v → report_with g n a names number first u ≡ report_with h f b order number moved v
same_report g h n f a b names order number first moved u v e1 e2 e3 e4 e5 e6 = cc

module _ (law : NamesGrow) where
  -- ---- what the report shows

  names_moved : (names : List (List ℕ)) (all first : List (ℕ × ℤ)) → All (λ name. place_in (first_order names all) name < length (first_order names all)) (first_names names first)
      → first_names (first_order names all) (moved_first names (first_order names all) first) ≡ first_names names first
  names_moved names all [] inside = refl
  names_moved names all (line ∷ first) inside =
      let P : List ℕ → Type 0 = λ name. place_in (first_order names all) name < length (first_order names all) in
      rw (
        law.stands (first_order names all) (name_at names line.0) (All-head P (name_at names line.0) (first_names names first) inside),
        names_moved names all first (All-tail P (name_at names line.0) (first_names names first) inside),
      ) refl

  all_shown : (names : List (List ℕ)) (first : List (ℕ × ℤ)) → first_names (first_order names first) (moved_first names (first_order names first) first) ≡ first_names names first
  all_shown names first = names_moved names first first (law.placed [] (first_names names first))

  pub shows : (names : List (List ℕ)) (first : List (ℕ × ℤ)) → ShowsFirst names first
  shows names first = record { names_are = all_shown names first; totals_are = totals_moved names (first_order names first) first }

  -- ---- the report is valid

  valid_of : (number : ℕ) (names : List (List ℕ)) (first : List (ℕ × ℤ)) (sum : ℤ) → number < 2 ^ 64 → length first ≤ 64 → All IsName (first_names names first) → All (IsFirstOf (length names)) first → IsTotal sum
      → IsValid (drill_report_of number names first sum)
  valid_of number names first sum fits few are_names machines total =
      let order : List (List ℕ) = first_order names first in
      let inside = law.placed [] (first_names names first) in
      record {
        head = record { some = omega arith; known = omega arith; first = λ e. refl; raised = record { few = omega arith; least = λ some. absurd (omega (arith, some)) } };
        game = record { reward = omega arith; sucker = omega arith; temptation = omega arith; punishment = omega arith };
        noise = record { some = omega arith; few = omega arith; half = omega arith };
        own = refl;
        are_noises = All-nil IsFlipRate;
        fixed = refl;
        are_names = holds_on law IsName (first_names names first) are_names;
        shown = ap (with_names []) (sym (all_shown names first));
        body = record {
          number_fits = fits;
          few = omega (arith, few, length-map first (moved_line names order));
          machines = machines_moved names order first inside machines;
          sum_is = total;
        };
      }

  -- the report whose parts were made one by one
  pub valid_made : (number : ℕ) (names : List (List ℕ)) (first : List (ℕ × ℤ)) (sum units : ℤ) (game : Payoffs) (noise : FlipRate) (noises : List FlipRate) (order : List (List ℕ)) (moved : List (ℕ × ℤ))
      → number < 2 ^ 64 → length first ≤ 64 → All IsName (first_names names first) → All (IsFirstOf (length names)) first → IsTotal sum
      → game ≡ drill_game → noise ≡ no_noise → noises ≡ [] → order ≡ first_order names first → moved ≡ moved_first names order first → units ≡ sum
      → IsValid (report_with game noise noises order number moved units)
  valid_made number names first sum units game noise noises order moved fits few are_names machines total game_is noise_is none order_is moved_is same =
      let places : moved ≡ moved_first names (first_order names first) first = moved_is ∙ ap (λ (o : List (List ℕ)). moved_first names o first) order_is in
      subst IsValid
      (sym (same_report game drill_game noise no_noise noises [] order (first_order names first) number moved (moved_first names (first_order names first) first) units sum game_is noise_is none order_is places same))
      (valid_of number names first sum fits few are_names machines total)
