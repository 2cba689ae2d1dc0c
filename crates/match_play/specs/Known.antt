-- The sheets that a bench has players for.
use Rattle.std.specs.Prelude.{List}
use Rattle.player_core.specs.State.{BenchState, Lasting, players_of}
use Rattle.player_core.specs.Sheet.{SheetData}
use Rattle.player_core.specs.Fits.{NoPlugNamed}

-- for a plug the bench has a player of its name
abbrev pub IsKnown : List Lasting → SheetData → Type 0
IsKnown players sheet = NoPlugNamed players sheet → ⊥

-- for a plug the bench has a player of its name
abbrev pub IsKnownOn : BenchState → SheetData → Type 0
IsKnownOn bench sheet = IsKnown (players_of bench) sheet
