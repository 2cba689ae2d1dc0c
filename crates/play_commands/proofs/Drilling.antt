-- The machines of a drill: they are sure, so all their matches are, and all their totals are points.
use Rattle.std.proofs.Common.{◌≡◌, ℕ, ◌-◌, ◌*◌, ◌%◌, ◌<◌, ◌≤◌, zero, suc, ◌⊎◌, inl, inr, List, length, map, get_or, refl, sym, ◌∙◌, ap, subst, arith}
use Rattle.std.specs.List.{All, range_with_len}
use Rattle.std.proofs.lemmas.List.{length-map, get_or-map}
use Rattle.std.proofs.lemmas.List.FromFn.{get_or-map-range_with_len, length-map-range_with_len}
use Rattle.history_model.specs.Automaton.{Row, IsSure, no_row}
use Rattle.player_core.specs.declared.kind.Kind.{Kind}
use Rattle.player_core.specs.declared.kind.Kind.TheVariants.{Machine, Plug}
use Rattle.player_core.specs.AutomatonOf.{automaton_by, machine_automaton, machine_row}
use Rattle.player_core.specs.State.{Lasting}
use Rattle.player_core.specs.Sheet.{SheetData, states}
use Rattle.player_core.specs.Entry.{entry_automaton, plug_automaton}
use Rattle.player_core.specs.Fits.{SidesFit}
use Rattle.sheet_rules.specs.Entrants.{Entrant, IsSurePair, entrant_at, no_entrant}
use Rattle.round_robin.specs.Contest.{IsPair, ArePairs, entrant_strategies}
use Rattle.round_robin.specs.Asked.{Turns, AreAsked, AtMostTurns, most_for}
use Rattle.round_robin.specs.Entries.{AreEntries, IsEntry, IsShortPair}
use Rattle.job_tables.specs.Tournament.{TournamentsAscend, tournament_pairs}
use Rattle.play_commands.specs.Machines.{AreMachines, drill_job, drill_pairs, machine_strategies, still}
use Rattle.play_commands.proofs.Contesting.{are_pairs}

-- ---- machines are sure

-- a weight of 1 or 0
one_or_none : (row : ℕ) → (1 - row % 2 ≡ 0) ⊎ (1 - row % 2 ≡ 1)
one_or_none row = by_rest (row % 2) (omega arith) where
  by_rest : (rest : ℕ) → rest < 2 → (1 - rest ≡ 0) ⊎ (1 - rest ≡ 1)
  by_rest zero small = inr refl
  by_rest (suc rest) small = inl (omega (arith, small))

machine_sure : (sheet : SheetData) → IsSure (machine_automaton sheet)
machine_sure sheet row inside =
    let many = length-map-range_with_len (machine_row sheet) 0 (2 * states sheet) in
    let at : get_or (map (machine_row sheet) (range_with_len 0 (2 * states sheet))) row no_row ≡ machine_row sheet row
    = get_or-map-range_with_len (machine_row sheet) 0 (2 * states sheet) row row no_row (omega (arith, inside, many)) (omega arith) in
    let P : Row → Type 0 = λ r. (r.weight ≡ 0) ⊎ (r.weight ≡ 1) in
    subst P (sym at) (one_or_none row)

pub entry_sure : (players : List Lasting) (sheet : SheetData) → sheet.kind ≡ Machine → IsSure (entry_automaton players sheet)
entry_sure players sheet is =
    let P : Kind → Type 0 = λ kind. IsSure (automaton_by kind sheet (plug_automaton players sheet.plug)) in
    subst P (sym is) (machine_sure sheet)

not_plug : (kind : Kind) → kind ≡ Machine → kind ≡ Plug → ⊥
not_plug kind is plug = cc

-- ---- as entrants

module _ (players : List Lasting) (sheets : List SheetData) (are : AreMachines sheets) where
  pub many : length (map still sheets) ≡ 64
  many = length-map sheets still ∙ are.many

  -- each is a machine whose moves are never flipped
  entrant_is : (k : ℕ) (s : SheetData) (e : Entrant) → k < 64 → get_or (map still sheets) k e ≡ still (get_or sheets k s)
  entrant_is k s e inside = get_or-map still sheets k s e (omega (arith, inside, are.many))

  -- any two leave nothing to chance
  pub pair_sure : (pair : ℕ × ℕ) → IsPair 64 pair → IsSurePair players (entrant_at (map still sheets) pair.0) (entrant_at (map still sheets) pair.1)
  pair_sure pair is =
      let left_inside : pair.0 < 64 = omega (arith, is.ordered, is.inside) in
      let s = (no_entrant).sheet in
      let l = entrant_is pair.0 s no_entrant left_inside in
      let r = entrant_is pair.1 s no_entrant is.inside in
      rw (l, r) (record {
        left = entry_sure players (get_or sheets pair.0 s) (are.machines pair.0 s (omega (arith, left_inside, are.many)));
        left_still = refl;
        right = entry_sure players (get_or sheets pair.1 s) (are.machines pair.1 s (omega (arith, is.inside, are.many)));
        right_still = refl;
      })

  pub are_entries : AreEntries players (map still sheets)
  are_entries = record {
    some = omega (arith, many);
    few = omega (arith, many);
    each = λ k e inside.
        let within : k < length sheets = omega (arith, inside, many, are.many) in
        let s = e.sheet in
        subst (IsEntry players) (sym (entrant_is k s e (omega (arith, inside, many)))) (record {
          valid = are.valid k s within;
          known = λ none. not_plug _ (are.machines k s within) none.plug;
        });
  }

  pub pairs_are : TournamentsAscend → ArePairs 64 drill_pairs
  unfolding drill_pairs
  pairs_are law = are_pairs law drill_job 64

  pub are_few_turns : TournamentsAscend → All (IsShortPair players (map still sheets) drill_job.turns) drill_pairs
  are_few_turns law k d inside = record {
    sure = λ s. omega arith;
    unsure = λ not_sure. absurd (not_sure (pair_sure (get_or drill_pairs k d) ((pairs_are law).each k d inside)));
  }

pub few_pairs : TournamentsAscend → 2 * length drill_pairs ≤ 64 * 65
unfolding drill_pairs
few_pairs law = (law drill_job 64).few

-- the matches that are made are those of the drill
module _ (players on_the_right : List Lasting) (fits : SidesFit players on_the_right) (sheets : List SheetData) (are : AreMachines sheets) (entrants : List Entrant) (held : entrants ≡ map still sheets)
    (pairs : List (ℕ × ℕ)) (made : pairs ≡ tournament_pairs drill_job (length sheets)) where
  pairs_same : pairs ≡ drill_pairs
  unfolding drill_pairs
  pairs_same = made ∙ ap (tournament_pairs drill_job) are.many

  pub as_drill : (P : List Entrant → List (ℕ × ℕ) → Type 0) → P entrants pairs → P (map still sheets) drill_pairs
  as_drill P here = subst (P (map still sheets)) pairs_same (subst (λ es. P es pairs) held here)

  pub as_made : (P : List Entrant → List (ℕ × ℕ) → Type 0) → P (map still sheets) drill_pairs → P entrants pairs
  as_made P here = subst (P entrants) (sym pairs_same) (subst (λ es. P es drill_pairs) (sym held) here)

  pub known_entries : AreEntries players entrants
  known_entries = as_made (λ es ps. AreEntries players es) (are_entries players sheets are)

  pub known_pairs : TournamentsAscend → ArePairs (length entrants) pairs
  known_pairs law =
      let P : ℕ → Type 0 = λ n. ArePairs n drill_pairs in
      as_made (λ es ps. ArePairs (length es) ps) (subst P (sym (many players sheets are)) (pairs_are players sheets are law))

  pub known_turns : TournamentsAscend → All (IsShortPair players entrants drill_job.turns) pairs
  known_turns law = as_made (λ es ps. All (IsShortPair players es drill_job.turns) ps) (are_few_turns players sheets are law)

  pub asked_known : (before now : Turns) → AreAsked (entrant_strategies players entrants) drill_job.turns pairs before now
      → AreAsked (machine_strategies players sheets) drill_job.turns drill_pairs before now
  asked_known before now asked = as_drill (λ es ps. AreAsked (entrant_strategies players es) drill_job.turns ps before now) asked

  pub most_known : (before now : Turns) → AtMostTurns (most_for (entrant_strategies players entrants) pairs) before now
      → AtMostTurns (most_for (machine_strategies players sheets) drill_pairs) before now
  most_known before now most = as_drill (λ es ps. AtMostTurns (most_for (entrant_strategies players es) ps) before now) most
