-- What the line of a match between two entries of a lab must say.
use Rattle.std.specs.Prelude.{ℕ, ◌≡◌, ◌==◌, List, [], map, if◌then◌else◌}
use Rattle.history_model.specs.Noise.{FlipRate}
use Rattle.player_core.specs.State.{BenchState, Lasting, players_of}
use Rattle.result_lines.specs.declared.line.MatchLine.{MatchLine}
use Rattle.report_names.specs.Names.{place_in}
use Rattle.report_rules.specs.declared.report.Head.{Head}
use Rattle.report_rules.specs.declared.report.Report.{Report}
use Rattle.sheet_rules.specs.Entrants.{Entrant, automaton_of_entrant}
use Rattle.sheet_rules.specs.RightLine.{IsRightLine}
use Rattle.round_robin.specs.Asked.{IsAsked, bench_turns}
use Rattle.lab_file.specs.Lab.{LabData, entry_at, names_of}
use Rattle.play_commands.specs.Entrants.{IsEntrant}

-- what a report tells of a lab
abbrev pub head_of_lab : LabData → Head
head_of_lab lab = record { version = lab.version; offset = lab.offset; game = lab.game; noise = lab.noise }

-- the noise of the entry of a name
abbrev pub noise_named : LabData → List ℕ → FlipRate
noise_named lab name = (entry_at lab.entries (place_in (names_of lab.entries) name)).noise

-- the noises that a report of a lab shows of these names: none in version 1, and in version 2 that of each name's entry
abbrev pub noises_named : LabData → List (List ℕ) → List FlipRate
noises_named lab names = if lab.version == 1 then [] else map (noise_named lab) names

-- the report is of this lab: its head shows the lab's version, payoffs and noise, and the noise of each entry that it names
pub record IsOfLab (lab : LabData) (report : Report) : Type 0 where
  pub version : report.version ≡ lab.version
  pub offset : report.offset ≡ lab.offset
  pub game : report.game ≡ lab.game
  pub noise : report.noise ≡ lab.noise
  pub noises : report.noises ≡ noises_named lab report.names

-- the line of a match between the entries at two places of the lab is right
pub record IsRightBetween (players : List Lasting) (lab : LabData) (left_place right_place turns : ℕ) (line : MatchLine) : Type 0 where
  pub left : Entrant
  pub right : Entrant
  pub left_is : IsEntrant lab left_place left
  pub right_is : IsEntrant lab right_place right
  pub turns_are : line.turns ≡ turns
  pub score : IsRightLine players lab.game lab.offset left right line

-- their players were asked: of a sure match as long as it met new pairs of rows, of any other each row of both
pub record IsAskedBetween (before after : BenchState) (lab : LabData) (left_place right_place turns : ℕ) : Type 0 where
  pub left : Entrant
  pub right : Entrant
  pub left_is : IsEntrant lab left_place left
  pub right_is : IsEntrant lab right_place right
  pub asked : IsAsked (automaton_of_entrant (players_of before) left) left.noise (automaton_of_entrant (players_of before) right) right.noise turns
      (bench_turns before) (bench_turns after)
