-- The game and the noise of a lab file, or the first refusal.
use Rattle.std.specs.Prelude.{ℕ, ◌+◌, ◌/◌, ◌==◌, ◌<◌, ◌≤◌, ◌≡◌, ◌||◌, nat_lt, max, ℤ, pos, negsuc, ◌+ℤ◌, ◌≤ℤ◌, Option, Some, None, Result, Ok, Err, if◌then◌else◌}
use Rattle.toml.specs.Data.{Members}
use Rattle.history_model.specs.Game.{Payoffs, magnitude, least, most}
use Rattle.history_model.specs.Noise.{FlipRate, no_noise}
use Rattle.refusals.specs.declared.place.KeyName.{KeyName}
use Rattle.refusals.specs.declared.place.KeyName.TheVariants.{Game, Noise, R, S, T, P, E, N}
use Rattle.refusals.specs.declared.place.Place.{Place}
use Rattle.refusals.specs.declared.place.TableName.{TableName}
use Rattle.refusals.specs.declared.place.TableName.TheVariants as tables
use Rattle.refusals.specs.declared.refusal.Refusal.{Refusal}
use Rattle.refusals.specs.declared.refusal.Refusal.TheVariants.{OutOfRange, Version}
use Rattle.refusals.specs.Refusing.{◌>>=◌}
use Rattle.lab_keys.specs.Keys.{optional_table_at, whole_at, signed_at}
use Rattle.game_file.specs.declared.game.FilePayoffs.{FilePayoffs}

-- keys of the top of the file and of the game
abbrev pub top : KeyName → Place
top key = record { table = tables.Top; entry = 0; key = key }

abbrev pub in_game : KeyName → Place
in_game key = record { table = tables.Game; entry = 0; key = key }

-- the game of the tournaments (Axelrod 1984)
abbrev pub usual_game : Payoffs
usual_game = record { r = 3; s = 0; t = 5; p = 1 }

-- how low a payoff may be: from version 2 on it may lie below 0
abbrev pub lowest : ℕ → ℤ
lowest version = if version == 1 then pos 0 else negsuc 999999

-- four payoffs of at most 1,000,000
abbrev pub payoff_at : ℕ → KeyName → Members → Result ℤ Refusal
payoff_at version key tree = signed_at (in_game key) (lowest version) (pos 1000000) tree

unfoldable pub payoffs_in : ℕ → Members → Result FilePayoffs Refusal
payoffs_in version tree = do
  r ← payoff_at version R tree
  s ← payoff_at version S tree
  t ← payoff_at version T tree
  p ← payoff_at version P tree
  Ok (record { r = r; s = s; t = t; p = p })

-- how far a payoff lies below 0
abbrev pub below : ℤ → ℕ
below (pos n) = 0
below (negsuc n) = n + 1

-- the offset: how far the least payoff lies below 0
abbrev pub needed_offset : FilePayoffs → ℕ
needed_offset file = max (max (max (below file.r) (below file.s)) (below file.t)) (below file.p)

-- a payoff plus the offset, and so all four
abbrev pub raised : ℕ → ℤ → ℕ
raised offset payoff = magnitude (payoff +ℤ pos offset)

abbrev pub raised_by : ℕ → FilePayoffs → Payoffs
raised_by offset file = record { r = raised offset file.r; s = raised offset file.s; t = raised offset file.t; p = raised offset file.p }

-- the greatest payoff less the least is at most 1,000,000
abbrev pub if_near : ℕ → Payoffs → Result (Payoffs × ℕ) Refusal
if_near offset game = if nat_lt (least game + 1000000) (most game) then Err (OutOfRange (in_game P)) else Ok (game, offset)

-- the raised game and the offset
abbrev pub game_from : FilePayoffs → Result (Payoffs × ℕ) Refusal
game_from file = if_near (needed_offset file) (raised_by (needed_offset file) file)

-- the same of a table, and the usual game where there is none
abbrev pub game_or : ℕ → Option Members → Result (Payoffs × ℕ) Refusal
game_or version None = Ok (usual_game, 0)
game_or version (Some tree) = payoffs_in version tree >>= game_from

abbrev pub game_at : ℕ → Members → Result (Payoffs × ℕ) Refusal
game_at version tree = optional_table_at (top Game) tree >>= game_or version

-- a chance of at most one half, over a denominator from 1 to 1000; refusals name the table and the entry
unfoldable pub flip_rate_in : TableName → ℕ → Members → Result FlipRate Refusal
flip_rate_in table entry tree = do
  e ← whole_at (record { table = table; entry = entry; key = E }) 1 1000 tree
  n ← whole_at (record { table = table; entry = entry; key = N }) 0 (e / 2) tree
  Ok (record { n = n; e = e })

-- the noise, and none where there is no table
abbrev pub flip_rate_or : Option Members → Result FlipRate Refusal
flip_rate_or None = Ok no_noise
flip_rate_or (Some tree) = flip_rate_in tables.Noise 0 tree

abbrev pub noise_at : Members → Result FlipRate Refusal
noise_at tree = optional_table_at (top Noise) tree >>= flip_rate_or

-- the noise of the entry of this number, by its own table
abbrev pub entry_flip_rate : ℕ → Members → Result FlipRate Refusal
entry_flip_rate entry tree = flip_rate_in tables.Entry entry tree

-- the raised game, the offset and the noise of a file of this version
unfoldable pub game_of : ℕ → Members → Result (Payoffs × ℕ × FlipRate) Refusal
game_of version tree = if version == 1 || version == 2 then (do
  game ← game_at version tree
  noise ← noise_at tree
  Ok (game.0, game.1, noise)) else Err Version

-- an offset is at most 1,000,000, and raises the least payoff to 0, unless it is 0 itself
pub record IsOffset (game : Payoffs) (offset : ℕ) : Type 0 where
  pub few : offset ≤ 1000000
  pub least : 0 < offset → least game ≡ 0

-- payoffs from -1,000,000 to 1,000,000
abbrev pub IsWithin : ℤ → Type 0
IsWithin payoff = (negsuc 999999 ≤ℤ payoff) × (payoff ≤ℤ pos 1000000)

pub record AreWithin (file : FilePayoffs) : Type 0 where
  pub reward : IsWithin file.r
  pub sucker : IsWithin file.s
  pub temptation : IsWithin file.t
  pub punishment : IsWithin file.p
