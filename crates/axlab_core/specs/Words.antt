-- What the words of the command line ask for.
use Rattle.std.specs.Prelude.{codes, ℕ, Bool, true, false, List, [], ◌∷◌, Option, Some, None, get_or, bytes_eq, if◌then◌else◌}
use Rattle.texts.specs.Numbers.{small}
use Rattle.lab_file.specs.declared.command.Command.TheVariants as commands
use Rattle.axlab_core.specs.Commands.{is_unbuilt, is_unbuilt_pair, has_option}
use Rattle.axlab_core.specs.declared.words.Form.{Form}
use Rattle.axlab_core.specs.declared.words.Form.TheVariants.{Lab, Drill, Unbuilt, Faulty}

-- a command with a lab, by its word
abbrev pub command_form : List ℕ → Form
command_form word =
    if bytes_eq word (codes "match") then Lab commands.Match
    else if bytes_eq word (codes "tournament") then Lab commands.Tournament
    else if is_unbuilt word then Unbuilt else Faulty

-- a drill of a number below 2^64, without leading zeros
abbrev pub drill_form : Option ℕ → Form
drill_form None = Faulty
drill_form (Some number) = Drill number

-- a word and one behind it
abbrev pub pair_form : List ℕ → List ℕ → Form
pair_form word second = if bytes_eq word (codes "drill") then drill_form (small second) else command_form word

-- a listed form is a drill of a number, a command with a lab, or one with a lab and a second file
abbrev pub listed_form : List (List ℕ) → Form
listed_form (word ∷ second ∷ []) = pair_form word second
listed_form (word ∷ lab ∷ second ∷ []) = if is_unbuilt_pair word then Unbuilt else Faulty
listed_form _ = Faulty

abbrev pub form_of : List (List ℕ) → Form
form_of words = if has_option words then Faulty else listed_form words

-- the name of the lab
abbrev pub lab_name : List (List ℕ) → List ℕ
lab_name words = get_or words 1 []

-- the name of the second file, where there is one
abbrev pub second_name : List (List ℕ) → List ℕ
second_name words = get_or words 2 []

-- whether the words ask for something that a lab is read for
abbrev pub needs_lab : Form → Bool
needs_lab (Lab command) = true
needs_lab (Drill number) = false
needs_lab Unbuilt = false
needs_lab Faulty = false
