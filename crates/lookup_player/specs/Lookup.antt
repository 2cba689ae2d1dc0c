-- What a lookup table may know.
use Rattle.std.specs.Prelude.{◌≤◌, ◌<◌, ◌^◌, min}
use Rattle.player_core.specs.Sheet.{SheetData, depth}
use Rattle.player_core.specs.Table.{Seen}
use Rattle.lookup_player.specs.declared.known.Known.{Known}

-- what is known, as the definitions have it
abbrev pub as_seen : Known → Seen
as_seen known = record { turns = known.turns; own = known.own; other = known.other; first = known.first }

-- no more turns than the depth, and as many plays of each sort as were looked at in those turns
pub record IsSeen (sheet : SheetData) (seen : Seen) : Type 0 where
  pub turns : seen.turns ≤ depth sheet
  pub own : seen.own < 2 ^ min seen.turns sheet.own
  pub other : seen.other < 2 ^ min seen.turns sheet.other
  pub first : seen.first < 2 ^ min seen.turns sheet.first
