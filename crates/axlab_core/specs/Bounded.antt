-- How often a call may advance the players of each side, whatever its answer.
use Rattle.player_core.specs.State.{BenchState}
use Rattle.lab_file.specs.declared.command.Command.TheVariants as commands
use Rattle.play_commands.specs.MayAsk.{MayAskDrill, MayAskMatch, MayAskTournament, UpTo}
use Rattle.axlab_core.specs.declared.words.Form.{Form}
use Rattle.axlab_core.specs.declared.words.Form.TheVariants.{Lab, Drill}
use Rattle.axlab_core.specs.Input.{Call, Finds, Input, OfLab, OfWords}
use Rattle.axlab_core.specs.World.{World}

-- for a command and its input
abbrev pub MayAsk : Form → BenchState → BenchState → Input → Type 0
MayAsk (Lab commands.Match) before after (OfLab lab second) = MayAskMatch before after lab
MayAsk (Lab commands.Tournament) before after (OfLab lab second) = MayAskTournament before after lab
MayAsk (Drill number) before after OfWords = MayAskDrill before after number
MayAsk _ before after input = ⊥

-- the players were advanced for an input that the words and files of the call give
pub record AskedForInput (call : Call) (after : World) : Type 0 where
  pub input : Input
  pub found : Finds call input
  pub most : MayAsk call.form call.before.bench after.bench input

-- nobody was advanced, or each side at most as often as the work on the input of the call allows
abbrev pub IsBounded : Call → World → Type 0
IsBounded call after = UpTo call.before.bench after.bench (AskedForInput call after)
