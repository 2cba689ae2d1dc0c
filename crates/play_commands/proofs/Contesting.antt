-- The entries of a lab as the contestants of its tournament.
use Rattle.std.proofs.Common.{◌≡◌, ℕ, ◌+◌, ◌<◌, List, [], ◌∷◌, ◌++◌, length, get_or, Ok, sym, ◌∙◌, ap, subst, inl, inr, arith}
use Rattle.std.specs.List.{All}
use Rattle.std.proofs.lemmas.Bool.{cases_lt}
use Rattle.std.proofs.lemmas.List.{length-map, length_push, get_or-map, get_or_append_left, get_or_push}
use Rattle.player_core.specs.State.{Lasting}
use Rattle.player_core.specs.Fits.{SidesFit}
use Rattle.player_core.specs.Bench.{notes_of}
use Rattle.history_model.specs.Game.{Payoffs}
use Rattle.result_lines.specs.declared.line.MatchLine.{MatchLine}
use Rattle.result_lines.specs.declared.tables.EntryLine.{EntryLine}
use Rattle.sheet_rules.specs.declared.contestant.Contestant.{Contestant}
use Rattle.sheet_rules.specs.Entrants.{Entrant, entrant_at, entrant_of, entrants_of, no_entrant}
use Rattle.round_robin.specs.Contest.{IsPair, ArePairs}
use Rattle.round_robin.specs.Entries.{AreEntries as AreContesting, AreRightEntries, AreRightLines, IsEntry, IsShortPair, totals_by_rule}
use Rattle.job_tables.specs.declared.tournament.TournamentJob.{TournamentJob}
use Rattle.lab_file.specs.declared.lab.Entry.{Entry}
use Rattle.lab_file.specs.Lab.{LabData, IsLab, NamesDiffer, entry_at, no_entry}
use Rattle.job_tables.specs.Jobs.{IsTournamentJob}
use Rattle.lab_file.specs.Limits.{MatchesAreKept, tournament_limits}
use Rattle.lab_file.specs.Notes.{AreNoted, NotesTell}
use Rattle.job_tables.specs.Tournament.{TournamentsAscend, tournament_pairs}
use Rattle.play_commands.specs.Contestants.{IsContestantOf, AreFirst}
use Rattle.lab_file.specs.Lab.{names_of}
use Rattle.play_commands.specs.Entrants.{IsEntrant}
use Rattle.play_commands.specs.RightTournament.{AreEntrants}
use Rattle.play_commands.proofs.Entries.{is_entry, is_short}

-- ---- places

-- what holds of a contestant holds of the entrant at its place
pub entrant_there : (contestants : List Contestant) (place : ℕ) (none : Entrant) → place < length contestants → (P : Entrant → Type 0)
    → ((none : Contestant) → P (entrant_of (get_or contestants place none))) → P (get_or (entrants_of contestants) place none)
entrant_there [] place none inside P holds = absurd (omega (arith, inside))
entrant_there (c ∷ cs) place none inside P holds = subst P (sym (get_or-map entrant_of (c ∷ cs) place c none inside)) (holds c)

-- the contestants of a lab are its entries
pub are_entrants : (lab : LabData) (contestants : List Contestant) → AreFirst lab (length lab.entries) contestants → AreEntrants lab (entrants_of contestants)
are_entrants lab contestants first = record {
  count = length-map contestants entrant_of ∙ first.count_is;
  each = λ place inside.
      entrant_there contestants place no_entrant (omega (arith, inside, first.count_is)) (IsEntrant lab place) (λ none. (first.each place none inside).is);
}

-- ---- pairs

pub are_pairs : TournamentsAscend → (job : TournamentJob) (count : ℕ) → ArePairs count (tournament_pairs job count)
are_pairs law job count =
    let matches = law job count in
    record {
      each = λ k d inside. let h = matches.within k d inside in record { ordered = h.0; inside = h.1 };
      ascending = λ k inside. matches.ascending k (k + 1) (0, 0) (omega arith) inside;
    }

-- ---- limits

module _ (tell : NotesTell) (players on_the_right : List Lasting) (fits : SidesFit players on_the_right) (lab : LabData) (noted : AreNoted (notes_of players) lab.entries)
    (contestants : List Contestant) (first : AreFirst lab (length lab.entries) contestants) where
  many : length (entrants_of contestants) ≡ length lab.entries
  many = (are_entrants lab contestants first).count

  pub are_entries : IsLab lab → AreContesting players (entrants_of contestants)
  are_entries valid = record {
    some = omega (arith, valid.entries.some, many);
    few = omega (arith, valid.entries.few, many);
    each = λ k none inside.
        let within : k < length lab.entries = omega (arith, inside, many) in
        entrant_there contestants k none (omega (arith, within, first.count_is)) (IsEntry players) (λ c.
        let is = first.each k c within in is_entry tell players on_the_right fits lab noted k (entrant_of (get_or contestants k c)) within is.is is.valid);
  }

  pub are_few_turns : MatchesAreKept → TournamentsAscend → (job : TournamentJob) → IsTournamentJob (length lab.entries) job → tournament_limits (notes_of players) lab.entries job ≡ Ok tt
      → All (IsShortPair players (entrants_of contestants) job.turns) (tournament_pairs job (length lab.entries))
  are_few_turns kept law job sound limits k d inside =
      let pair : ℕ × ℕ = get_or (tournament_pairs job (length lab.entries)) k d in
      let is : IsPair (length lab.entries) pair = (are_pairs law job (length lab.entries)).each k d inside in
      let left_inside : pair.0 < length lab.entries = omega (arith, is.ordered, is.inside) in
      let of = are_entrants lab contestants first in
      is_short tell players on_the_right fits lab noted pair (entrant_at (entrants_of contestants) pair.0) (entrant_at (entrants_of contestants) pair.1) left_inside is.inside
      (of.each pair.0 left_inside) (of.each pair.1 is.inside) job.turns sound.few_turns (kept (notes_of players) lab.entries job limits k d inside)

-- one more of the first entries
pub first_more : (lab : LabData) (place : ℕ) (contestants : List Contestant) (contestant : Contestant)
    → AreFirst lab place contestants → IsContestantOf lab place contestant → AreFirst lab (place + 1) (contestants ++ contestant ∷ [])
first_more lab place contestants contestant first is = record {
  count_is = length_push contestants contestant ∙ ap (λ n. n + 1) first.count_is;
  each = λ k none inside. elim (cases_lt k place) [
    | inl before ↦ subst (IsContestantOf lab k) (sym (get_or_append_left contestants (contestant ∷ []) none k (omega (arith, before, first.count_is)))) (first.each k none before)
    | inr here ↦
        let at : k ≡ length contestants = omega (arith, here, inside, first.count_is) in
        let same : k ≡ place = omega (arith, at, first.count_is) in
        let there : get_or (contestants ++ contestant ∷ []) k none ≡ contestant = get_or_push contestants contestant none k (sym at) in
        let P : ℕ → Type 0 = λ n. IsContestantOf lab n contestant in
        subst (IsContestantOf lab k) (sym there) (subst P (sym same) is)
  ];
}

-- names of entries that differ
pub names_differ : (entries : List Entry) (names : List (List ℕ)) → names ≡ names_of entries → NamesDiffer entries
    → (i j : ℕ) (d : List ℕ) → i < j → j < length names → get_or names i d ≡ get_or names j d → ⊥
names_differ entries names are differ i j d before inside same =
    let name : Entry → List ℕ = λ entry. entry.name in
    let many : length names ≡ length entries = ap length are ∙ length-map entries name in
    let first : get_or names i d ≡ (entry_at entries i).name = ap (λ ns. get_or ns i d) are ∙ get_or-map name entries i no_entry d (omega (arith, before, inside, many)) in
    let second : get_or names j d ≡ (entry_at entries j).name = ap (λ ns. get_or ns j d) are ∙ get_or-map name entries j no_entry d (omega (arith, inside, many)) in
    differ i j before (omega (arith, inside, many)) (sym first ∙ same ∙ second)

-- ---- as a list that is known to be the pairs

pub are_pairs_of : (law : TournamentsAscend) (job : TournamentJob) (count many : ℕ) (pairs : List (ℕ × ℕ)) → many ≡ count → pairs ≡ tournament_pairs job count → ArePairs many pairs
are_pairs_of law job count many pairs as_many same = rw (as_many, same) (are_pairs law job count)

pub few_turns_of : (players on_the_right : List Lasting) → SidesFit players on_the_right → (entrants : List Entrant) (turns : ℕ) (pairs others : List (ℕ × ℕ)) → pairs ≡ others
    → All (IsShortPair players entrants turns) others → All (IsShortPair players entrants turns) pairs
few_turns_of players on_the_right fits entrants turns pairs others same few =
    let P : List (ℕ × ℕ) → Type 0 = λ ps. All (IsShortPair players entrants turns) ps in
    subst P (sym same) few

-- what is told of the results, with the lab's own game, offset and pairs
module _ (players on_the_right : List Lasting) (fits : SidesFit players on_the_right) (entrants : List Entrant) (game read : Payoffs) (offset by turns : ℕ) (pairs others : List (ℕ × ℕ))
    (of_lab : read ≡ game) (less : by ≡ offset) (same : pairs ≡ others) where
  pub lines_of : (lines : List MatchLine) → AreRightLines players read by turns entrants pairs lines → AreRightLines players game offset turns entrants others lines
  lines_of lines made =
      let P : Payoffs → ℕ → List (ℕ × ℕ) → Type 0 = λ g o ps. AreRightLines players g o turns entrants ps lines in
      subst (P game offset) same (subst (λ o. P game o pairs) less (subst (λ g. P g by pairs) of_lab made))

  pub entries_of_lab : (count : ℕ) (entries : List EntryLine) → length entrants ≡ count → AreRightEntries (totals_by_rule players read by turns entrants pairs) (length entrants) entries
      → AreRightEntries (totals_by_rule players game offset turns entrants others) count entries
  entries_of_lab count entries many made =
      let P : Payoffs → ℕ → List (ℕ × ℕ) → ℕ → Type 0 = λ g o ps n. AreRightEntries (totals_by_rule players g o turns entrants ps) n entries in
      subst (λ ps. P game offset ps count) same (subst (λ o. P game o pairs count) less (subst (λ g. P g by pairs count) of_lab (subst (P read by pairs) many made)))
