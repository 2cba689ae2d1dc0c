-- Marks of the pairs of rows that a match has met.
use Rattle.std.specs.Prelude.{ℕ, ◌+◌, ◌-◌, ◌*◌, ◌≤◌}
use Rattle.history_model.specs.declared.tally.Tally.{Tally}
use Rattle.match_play.specs.declared.trail.Mark.{Mark}

-- the place of the mark of a pair of rows, where the right player has so many rows
abbrev pub place_of_pair : ℕ → ℕ → ℕ → ℕ
place_of_pair columns left right = left * columns + right

-- the plays since a mark was made, which are so many
abbrev pub since : Mark → Tally → ℕ → Tally
since mark tally long =
    let cc = tally.cc - mark.cc in
    let cd = tally.cd - mark.cd in
    let dc = tally.dc - mark.dc in
    record { cc = cc; cd = cd; dc = dc; dd = long - (cc + cd + dc) }

-- a tally of so many plays more than there were at a mark
pub record IsSince (mark : Mark) (tally : Tally) (long : ℕ) : Type 0 where
  pub cc : mark.cc ≤ tally.cc
  pub cd : mark.cd ≤ tally.cd
  pub dc : mark.dc ≤ tally.dc
  pub few : (tally.cc - mark.cc) + (tally.cd - mark.cd) + (tally.dc - mark.dc) ≤ long
