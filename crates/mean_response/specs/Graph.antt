-- Own moves as ways from row to row.
use Rattle.std.specs.Prelude.{ℕ, ◌^◌, ◌≡◌, ◌≤◌, ◌<◌, List, length, slice_index_or}
use Rattle.history_model.specs.declared.moves.Move.{Move}
use Rattle.history_model.specs.declared.moves.Move.TheVariants.{C, D}
use Rattle.history_model.specs.Game.{Payoffs, IsGame}
use Rattle.history_model.specs.Automaton.{Automaton, IsAutomaton}
use Rattle.history_model.specs.Mean.{step}
use Rattle.mean_response.specs.declared.graph.Exit.{Exit}
use Rattle.mean_response.specs.declared.graph.Exits.{Exits}
use Rattle.mean_response.specs.declared.graph.Graph.{Graph}
use Rattle.mean_response.specs.Walks.{gain}

-- where an own move leads from a row, and what it is paid
pub record IsExit (them : Automaton) (game : Payoffs) (row : ℕ) (move : Move) (exit : Exit) : Type 0 where
  pub to : exit.to ≡ step them row move
  pub inside : exit.to < length them.rows
  pub points : exit.points ≡ gain them game row move
  pub few : exit.points ≤ 10 ^ 6

-- both ways out of each of the first n rows
pub record AreExits (them : Automaton) (game : Payoffs) (n : ℕ) (exits : List Exits) : Type 0 where
  pub size : length exits ≡ n
  pub if_c : (row : ℕ) (d : Exits) → row < n → IsExit them game row C (slice_index_or exits row d).c
  pub if_d : (row : ℕ) (d : Exits) → row < n → IsExit them game row D (slice_index_or exits row d).d

abbrev pub opponent_of : Graph → Automaton
opponent_of graph = graph.opponent.now

abbrev pub game_of : Graph → Payoffs
game_of graph = graph.game.now

-- all that is at hand is valid
pub record IsGraph (graph : Graph) : Type 0 where
  pub automaton : IsAutomaton (opponent_of graph)
  pub game : IsGame (game_of graph)
  pub exits : AreExits (opponent_of graph) (game_of graph) (length (opponent_of graph).rows) graph.exits.items
