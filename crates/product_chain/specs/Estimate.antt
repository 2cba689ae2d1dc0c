-- Estimates of what a side expects, and the spans that they give.
use Rattle.std.specs.Prelude.{ℕ, ◌+◌, ◌*◌, ◌^◌, ◌≡◌, ◌≤◌, ◌<◌, pos, ◌≤ℤ◌}
use Rattle.history_model.specs.Automaton.{Automaton, IsSure}
use Rattle.history_model.specs.Expectation.{player}
use Rattle.history_model.specs.Game.{most}
use Rattle.history_model.specs.History.{points}
use Rattle.history_model.specs.Noise.{FlipRate}
use Rattle.history_model.specs.Path.{path}
use Rattle.fixed_span.specs.Span.{Ends, Fraction, Holds, IsWithin, score_units}
use Rattle.product_chain.specs.declared.side.Side.{Side}
use Rattle.product_chain.specs.declared.estimate.Estimate.{Estimate}
use Rattle.product_chain.specs.Expected.{expected_score, finest, IsPayable, IsSharp, IsSureMatch, IsTight}
use Rattle.product_chain.specs.Layer.{IsNear, expected, plays}

-- the points of the path of sure moves
abbrev pub sure_points : Side → ℕ → ℕ → ℕ → ℕ
sure_points s n u v = points s.game.now (path s.own.now u s.other.now v n)

-- an automaton that draws no lots, whose moves are not flipped
pub record IsCertain (a : Automaton) (noise : FlipRate) : Type 0 where
  pub sure : IsSure a
  pub still : noise.n ≡ 0

abbrev pub IsSureSide : Side → Type 0
IsSureSide s = IsSureMatch s.own.now s.own_noise.now s.other.now s.other_noise.now

-- what the side expects of n turns from the starts
abbrev pub from_starts : Side → ℕ → ℕ
from_starts s n = expected s n s.own.now.start s.other.now.start

-- what the side expects of n turns, by the pairs of rows and by all histories
abbrev pub from_rows : Side → ℕ → Fraction
from_rows s n = record { numerator = pos (from_starts s n); denominator = plays s n }

abbrev pub side_fraction : Side → ℕ → Fraction
side_fraction s n = expected_score (player s.own.now) s.own_noise.now (player s.other.now) s.other_noise.now s.game.now 0 n

-- what the side expects of n turns lies between value and value + err, in parts of which `scale` make a point
pub record IsEstimate (s : Side) (n : ℕ) (x : Estimate) : Type 0 where
  pub near : IsNear x.scale 0 x.err x.value (from_starts s n) (plays s n)
  pub some : 1 ≤ x.scale
  pub scaled : x.scale ≤ 2 ^ 86
  pub room : x.scale * (n * most s.game.now) ≤ 2 ^ 86
  pub close : x.err ≤ 10 ^ 6
  pub narrow : x.err * score_units + x.scale ≤ n * x.scale
  pub tight : (m : ℕ) → 4 * n * score_units ≤ m * finest s.game.now n → x.err * score_units ≤ m * x.scale

-- the value fits between the floor and the roof
pub record CanEnd (x err scale floor roof : ℕ) : Type 0 where
  pub small : x + err ≤ 2 ^ 87
  pub low : x * score_units ≤ roof * scale
  pub high : floor * scale ≤ (x + err) * score_units
  pub ends : floor ≤ roof

-- the span of the value x / scale, where the exact value can be greater by err / scale
pub record IsEnds (x err scale floor roof : ℕ) (span : Ends) : Type 0 where
  pub holds : (e y : ℕ) → 0 < y → IsNear scale 0 err x e y → floor * y ≤ score_units * e → score_units * e ≤ roof * y → Holds score_units span (record { numerator = pos e; denominator = y })
  pub narrow : (m : ℕ) → err * score_units ≤ m * scale → IsWithin (m + 1) span
  pub low : pos floor ≤ℤ span.lo
  pub high : span.hi ≤ℤ pos roof
  pub point : scale ≡ 1 → err ≡ 0 → span.lo ≡ span.hi
  pub sharp : (e y : ℕ) → 0 < y → err ≡ 0 → IsNear scale 0 0 x e y → IsSharp score_units span (record { numerator = pos e; denominator = y })

-- the span of what a side expects of n turns
pub record IsScore (s : Side) (n : ℕ) (span : Ends) : Type 0 where
  pub holds : Holds score_units span (from_rows s n)
  pub width : IsWithin n span
  pub narrow : IsTight s.game.now n span
  pub payable : IsPayable s.game.now n span
  pub one_turn : n ≡ 1 → IsSharp score_units span (from_rows s n)
