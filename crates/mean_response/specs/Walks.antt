-- Walks of own moves through the rows of a sure opponent, and tables of the best of each length (Karp 1978).
use Rattle.std.specs.Prelude.{ℕ, ◌+◌, ◌-◌, ◌*◌, ◌^◌, ◌≡◌, ◌≤◌, ◌<◌, List, [], map, length, slice_index, slice_index_or, ℤ, pos, negsuc, ◌≤ℤ◌, ◌+ℤ◌, Option, Some, None}
use Rattle.std.specs.Global.{Vec}
use Rattle.history_model.specs.declared.moves.Move.{Move}
use Rattle.history_model.specs.Game.{Payoffs, pay}
use Rattle.history_model.specs.Automaton.{Automaton}
use Rattle.history_model.specs.Path.{sure_move}
use Rattle.history_model.specs.Mean.{step, led}
use Rattle.strategy_trees.specs.Lassos.{led_points}

-- what an own move is paid at a row
abbrev pub gain : Automaton → Payoffs → ℕ → Move → ℕ
gain them game row move = pay game move (sure_move them row)

-- k moves from the start to row v, whose score is one less than x
pub record HasWalk (them : Automaton) (game : Payoffs) (k v x : ℕ) : Type 0 where
  pub moves : List Move
  pub size : length moves ≡ k
  pub leads : led them them.start moves ≡ v
  pub scores : led_points them game them.start moves + 1 ≡ x

-- one more than the greatest score of k own moves from the start to row v, and 0 where none lead there
pub record IsBest (them : Automaton) (game : Payoffs) (k v x : ℕ) : Type 0 where
  pub upper : (ms : List Move) → length ms ≡ k → led them them.start ms ≡ v → led_points them game them.start ms < x
  pub made : 0 < x → HasWalk them game k v x

-- the numbers of all rows for walks of k moves
pub record IsLayer (them : Automaton) (game : Payoffs) (k : ℕ) (bests : List ℕ) : Type 0 where
  pub size : length bests ≡ length them.rows
  pub each : (v : ℕ) → v < length them.rows → IsBest them game k v (slice_index bests v)
  pub bound : (v : ℕ) → slice_index bests v ≤ k * 10 ^ 6 + 1

-- an edge into row u
pub record HasEdge (them : Automaton) (game : Payoffs) (below : List ℕ) (u x : ℕ) : Type 0 where
  pub from : ℕ
  pub by : Move
  pub inside : from < length them.rows
  pub leads : step them from by ≡ u
  pub some : 0 < slice_index below from
  pub value : x ≡ slice_index below from + gain them game from by

-- the layer above, after the edges from the first n rows
pub record IsPart (them : Automaton) (game : Payoffs) (k : ℕ) (below : List ℕ) (n : ℕ) (above : List ℕ) : Type 0 where
  pub size : length above ≡ length them.rows
  pub reached : (v : ℕ) (m : Move) → v < n → 0 < slice_index below v → slice_index below v + gain them game v m ≤ slice_index above (step them v m)
  pub made : (u : ℕ) → u < length them.rows → 0 < slice_index above u → HasEdge them game below u (slice_index above u)
  pub bound : (u : ℕ) → slice_index above u ≤ k * 10 ^ 6 + 10 ^ 6 + 1

-- the numbers in the layers
abbrev pub layers_of : List (Vec ℕ) → List (List ℕ)
layers_of ls = map (λ l. l.items) ls

-- the number of row v in the layer of k moves, or 0
abbrev pub best_at : List (List ℕ) → ℕ → ℕ → ℕ
best_at ls k v = slice_index (slice_index_or ls k []) v

-- layers 0 to R, where R is the number of rows
pub record IsTable (them : Automaton) (game : Payoffs) (ls : List (List ℕ)) : Type 0 where
  pub size : length ls ≡ length them.rows + 1
  pub each : (k : ℕ) → k < length ls → IsLayer them game k (slice_index_or ls k [])

-- k moves lead to row v
pub record IsReached (them : Automaton) (k v : ℕ) : Type 0 where
  pub moves : List Move
  pub size : length moves ≡ k
  pub leads : led them them.start moves ≡ v

-- num / den is a rise from a layer to layer R at row v, over the layers between
pub record IsRise (ls : List (List ℕ)) (r v num den : ℕ) : Type 0 where
  pub at : ℕ
  pub below : at < r
  pub some : 0 < best_at ls at v
  pub rise : num ≡ best_at ls r v - best_at ls at v
  pub run : den ≡ r - at

-- no rise at row v is less than num / den
abbrev pub IsLeast : List (List ℕ) → ℕ → ℕ → ℕ → ℕ → Type 0
IsLeast ls r v num den = (k : ℕ) → k < r → 0 < best_at ls k v → num * (r - k) ≤ (best_at ls r v - best_at ls k v) * den

-- some rise at row v is at most num / den
pub record IsCapped (ls : List (List ℕ)) (r v num den : ℕ) : Type 0 where
  pub at : ℕ
  pub below : at < r
  pub some : 0 < best_at ls at v
  pub capped : (best_at ls r v - best_at ls at v) * den ≤ num * (r - at)

-- the greatest mean: the row where it is met, and a cap at every row
pub record IsPeak (ls : List (List ℕ)) (r at num den : ℕ) : Type 0 where
  pub inside : at < r
  pub some : 0 < best_at ls r at
  pub least : IsLeast ls r at num den
  pub caps : (v : ℕ) → v < r → 0 < best_at ls r v → IsCapped ls r v num den
  pub positive : 0 < den

-- one candidate of a row's height
pub record IsHeightAt (ls : List (List ℕ)) (r num den v h : ℕ) : Type 0 where
  pub at : ℕ
  pub below : at < r
  pub some : 0 < best_at ls at v
  pub value : h ≡ best_at ls at v * den + num * (r - at)

-- the greatest of den * best - num * layer, raised by num * r, and 0 where no layer has the row
pub record IsHeight (ls : List (List ℕ)) (r num den v h : ℕ) : Type 0 where
  pub above : (k : ℕ) → k < r → 0 < best_at ls k v → best_at ls k v * den + num * (r - k) ≤ h
  pub made : 0 < h → IsHeightAt ls r num den v h

-- h is den * score - num * length for some own moves from the start to row v
pub record IsAttained (them : Automaton) (game : Payoffs) (num den v : ℕ) (h : ℤ) : Type 0 where
  pub moves : List Move
  pub leads : led them them.start moves ≡ v
  pub value : pos (den * led_points them game them.start moves) ≡ h +ℤ pos (num * length moves)

-- the greatest of den * score - num * length over all own moves from the start to row v
pub record IsHighest (them : Automaton) (game : Payoffs) (num den v : ℕ) (h : ℤ) : Type 0 where
  pub above : (ms : List Move) → led them them.start ms ≡ v → pos (den * led_points them game them.start ms) ≤ℤ (h +ℤ pos (num * length ms))
  pub attained : IsAttained them game num den v h
  pub low : negsuc (10 ^ 15 - 1) ≤ℤ h
  pub high : h ≤ℤ pos (10 ^ 15)

-- the potential of row v, and none where no own moves lead to it
abbrev pub HasPotential : Automaton → Payoffs → ℕ → ℕ → ℕ → Option ℤ → Type 0
HasPotential them game num den v None = (ms : List Move) → led them them.start ms ≡ v → ⊥
HasPotential them game num den v (Some h) = IsHighest them game num den v h

-- own moves that lead to a row, and from there back to it, with the mean num / den
pub record IsTurned (them : Automaton) (game : Payoffs) (num den : ℕ) (path cycle : List Move) : Type 0 where
  pub some : 0 < length cycle
  pub short : length path + length cycle ≤ length them.rows
  pub returns : led them (led them them.start path) cycle ≡ led them them.start path
  pub mean : den * led_points them game (led them them.start path) cycle ≡ num * length cycle

-- lowest terms
pub record IsLowest (num den : ℕ) : Type 0 where
  pub positive : 0 < den
  pub lowest : (d a b : ℕ) → num ≡ d * a → den ≡ d * b → d ≡ 1
