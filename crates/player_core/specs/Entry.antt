-- The automaton that a sheet plays on a bench.
use Rattle.std.specs.Prelude.{ℕ, List, [], ◌∷◌, drop, if◌then◌else◌}
use Rattle.std.specs.Str.{bytes_eq}
use Rattle.history_model.specs.Automaton.{Automaton}
use Rattle.player_core.specs.State.{BenchState, Lasting, nobody, players_of}
use Rattle.player_core.specs.Sheet.{SheetData}
use Rattle.player_core.specs.AutomatonOf.{automaton_of}
use Rattle.player_core.specs.Fits.{first_plug}

-- the automaton of the first player of a name, or nobody's
abbrev pub automaton_named : List Lasting → List ℕ → Automaton
automaton_named [] name = nobody.automaton
automaton_named (player ∷ rest) name = if bytes_eq player.name name then player.automaton else automaton_named rest name

-- the automaton of a side's plug of a name
abbrev pub plug_automaton : List Lasting → List ℕ → Automaton
plug_automaton players name = automaton_named (drop first_plug players) name

-- what a sheet plays: a plug by its name, every other sheet by itself
abbrev pub entry_automaton : List Lasting → SheetData → Automaton
entry_automaton players sheet = automaton_of sheet (plug_automaton players sheet.plug)

-- what a sheet plays on a bench
abbrev pub entry_on : BenchState → SheetData → Automaton
entry_on bench sheet = entry_automaton (players_of bench) sheet
