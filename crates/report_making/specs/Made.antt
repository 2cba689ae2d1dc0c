-- The reports that are made of a match, of a tournament, and of a drill.
use Rattle.std.specs.Prelude.{ℕ, ℤ, ◌≡◌, ◌≤◌, All, List, [], ◌∷◌, ◌++◌, length, map, ◌==◌, slice_index_or, if◌then◌else◌, bytes_eq}
use Rattle.history_model.specs.Noise.{FlipRate, no_noise}
use Rattle.result_lines.specs.declared.line.MatchLine.{MatchLine}
use Rattle.result_lines.specs.declared.tables.Totals.{Totals}
use Rattle.result_lines.specs.Totals.{entries_of}
use Rattle.report_rules.specs.declared.report.Body.TheVariants as bodies
use Rattle.report_rules.specs.declared.report.Head.{Head}
use Rattle.report_rules.specs.declared.report.Report.{Report}
use Rattle.report_names.specs.Names.{name_at, place_in, with_names}
use Rattle.report_rules.specs.Text.{shown_match}
use Rattle.report_rules.specs.Valid.{IsMatchOf, drill_game, first_names, match_names}

-- the names of two players; one where it is a match of an entry with itself
abbrev pub names_of_pair : List ℕ → List ℕ → List (List ℕ)
names_of_pair left right = if bytes_eq left right then left ∷ [] else left ∷ right ∷ []

-- the noises that the names of a match have of their own, which version 1 doesn't show
abbrev pub noises_of_pair : ℕ → List ℕ → List ℕ → FlipRate → FlipRate → List FlipRate
noises_of_pair version left right left_noise right_noise =
    if version == 1 then [] else if bytes_eq left right then left_noise ∷ [] else left_noise ∷ right_noise ∷ []

-- a report whose match is between the names' places
abbrev pub match_report_of : Head → List ℕ → List ℕ → FlipRate → FlipRate → MatchLine → Report
match_report_of head left right left_noise right_noise line = record {
  version = head.version;
  offset = head.offset;
  game = head.game;
  noise = head.noise;
  noises = noises_of_pair head.version left right left_noise right_noise;
  names = names_of_pair left right;
  body = bodies.Match (record line { left = 0; right = if bytes_eq left right then 0 else 1 });
}

-- results of a tournament of so many entries: matches that a report can show, and what they give each entry
pub record AreResults (count : ℕ) (head : Head) (totals : Totals) : Type 0 where
  pub few_matches : length totals.matches ≤ 2080
  pub playable : All (IsMatchOf count head) totals.matches
  pub entries : totals.entries ≡ entries_of count totals.matches

-- the names of all entries in the order of a report's lines: first those of the matches, then the others
abbrev pub names_in_order : List (List ℕ) → List MatchLine → List (List ℕ)
names_in_order names matches = with_names [] (match_names names matches ++ names)

-- a match whose entries are places in some names, with their places in others
abbrev pub moved_match : List (List ℕ) → List (List ℕ) → MatchLine → MatchLine
moved_match names order line =
    record line { left = place_in order (name_at names line.left); right = place_in order (name_at names line.right) }

-- the entries and matches with other places
abbrev pub moved_matches : List (List ℕ) → List (List ℕ) → List MatchLine → List MatchLine
moved_matches names order matches = map (moved_match names order) matches

-- the place of each entry
abbrev pub places_in : List (List ℕ) → List (List ℕ) → List ℕ
places_in order names = map (place_in order) names

-- the noise that a name has of its own, among those of all names
abbrev pub noise_of : List (List ℕ) → List FlipRate → List ℕ → FlipRate
noise_of names noises name = slice_index_or noises (place_in names name) no_noise

-- the noises in the order of the names in the report, which version 1 doesn't show
abbrev pub noises_in_order : ℕ → List (List ℕ) → List FlipRate → List (List ℕ) → List FlipRate
noises_in_order version names noises order = if version == 1 then [] else map (noise_of names noises) order

-- a report of a tournament of entries of these names, which have these noises
abbrev pub tournament_report_of : Head → List (List ℕ) → List FlipRate → Totals → Report
tournament_report_of head names noises totals =
    let order : List (List ℕ) = names_in_order names totals.matches in
    record {
      version = head.version;
      offset = head.offset;
      game = head.game;
      noise = head.noise;
      noises = noises_in_order head.version names noises order;
      names = order;
      body = bodies.Tournament (moved_matches names order totals.matches) (places_in order names) totals.entries;
    }

-- the report shows each match with the names of its entries, and each entry's line, in their order, with its name
pub record ShowsNames (names : List (List ℕ)) (totals : Totals) : Type 0 where
  pub matches : let order : List (List ℕ) = names_in_order names totals.matches in
      map (shown_match order) (moved_matches names order totals.matches) ≡ map (shown_match names) totals.matches
  pub entries : let order : List (List ℕ) = names_in_order names totals.matches in
      map (name_at order) (places_in order names) ≡ names

-- the names of machines in the order of a report's lines
abbrev pub first_order : List (List ℕ) → List (ℕ × ℤ) → List (List ℕ)
first_order names first = with_names [] (first_names names first)

-- a machine whose place is in some names, with its place in others
abbrev pub moved_line : List (List ℕ) → List (List ℕ) → ℕ × ℤ → ℕ × ℤ
moved_line names order line = (place_in order (name_at names line.0), line.1)

-- the machines with other places
abbrev pub moved_first : List (List ℕ) → List (List ℕ) → List (ℕ × ℤ) → List (ℕ × ℤ)
moved_first names order first = map (moved_line names order) first

-- a report of version 1 of the drill of a number, whose machines have these names
abbrev pub drill_report_of : ℕ → List (List ℕ) → List (ℕ × ℤ) → ℤ → Report
drill_report_of number names first sum =
    let order : List (List ℕ) = first_order names first in
    record {
      version = 1;
      offset = 0;
      game = drill_game;
      noise = no_noise;
      noises = [];
      names = order;
      body = bodies.Drill number (moved_first names order first) sum;
    }

-- the report shows each machine of the first rank, in their order, with its name and its total
pub record ShowsFirst (names : List (List ℕ)) (first : List (ℕ × ℤ)) : Type 0 where
  pub names_are : let order : List (List ℕ) = first_order names first in
      first_names order (moved_first names order first) ≡ first_names names first
  pub totals_are : let order : List (List ℕ) = first_order names first in
      map (λ line. line.1) (moved_first names order first) ≡ map (λ line. line.1) first
