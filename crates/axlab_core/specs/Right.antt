-- What the work of each command must give.
use Rattle.std.specs.Prelude.{◌≡◌, ◌⊎◌, ℕ, List, Option, Result, Ok, Err}
use Rattle.lab_file.specs.declared.command.Command.TheVariants as commands
use Rattle.lab_ports.specs.Causes.{Rose}
use Rattle.lab_ports.specs.Holding.{Grew, GrewByPart}
use Rattle.axlab_core.specs.declared.output.Output.{Output}
use Rattle.axlab_core.specs.declared.output.Hindrance.{Hindrance}
use Rattle.axlab_core.specs.declared.output.Hindrance.TheVariants.{Denied, NoMemory}
use Rattle.axlab_core.specs.declared.words.Form.{Form}
use Rattle.axlab_core.specs.declared.words.Form.TheVariants.{Lab, Drill}
use Rattle.axlab_core.specs.Input.{Input, OfLab, OfWords, tested}
use Rattle.axlab_core.specs.Bounded.{MayAsk}
use Rattle.axlab_core.specs.Loading.{Denies}
use Rattle.play_commands.specs.MayAsk.{UpTo}
use Rattle.axlab_core.specs.Output.{IsSendable, output_text}
use Rattle.play_commands.specs.RightDrill.{IsRightDrill, IsAskedDrill}
use Rattle.play_commands.specs.RightMatch.{IsRightMatch, IsAskedMatch}
use Rattle.play_commands.specs.RightTournament.{IsRightTournament, IsAskedTournament}
use Rattle.player_core.specs.State.{BenchState, players_of}

-- the text is a right output of a command for its input, for which the players of the bench were asked as they must be
abbrev pub IsServed : Form → BenchState → BenchState → Input → List ℕ → Type 0
IsServed (Lab commands.Match) before after (OfLab lab second) text = IsRightMatch (players_of before) lab text × IsAskedMatch before after lab
IsServed (Lab commands.Tournament) before after (OfLab lab second) text =
    IsRightTournament (players_of before) lab text × IsAskedTournament before after lab
IsServed (Drill number) before after OfWords text = IsRightDrill (players_of before) number text × IsAskedDrill before after number
IsServed _ before after input text = ⊥

-- an output that the work of a command may give for its input
pub record ServesWell (form : Form) (before after : BenchState) (input : Input) (output : Output) : Type 0 where
  pub passed : tested form (players_of before) input ≡ Ok input
  pub served : IsServed form before after input (output_text output)
  pub sendable : IsSendable output

-- what the work of a command may give for its input
abbrev pub Serves : Form → BenchState → BenchState → Input → Result Output Hindrance → Type 0
Serves form before after input (Ok output) = ServesWell form before after input output
Serves form before after input (Err (Denied line)) =
    (tested form (players_of before) input ≡ Err (Denies line)) × UpTo before after (MayAsk form before after input)
Serves form before after input (Err NoMemory) = UpTo before after (MayAsk form before after input)

-- the sink took the text, or a part of it and failed
abbrev pub Told : List ℕ → Option (List ℕ) → Option (List ℕ) → ℕ → ℕ → Type 0
Told text before now faults_before faults_now =
    Grew before now text ⊎ (GrewByPart before now text × Rose faults_before faults_now)
