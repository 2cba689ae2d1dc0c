-- The law that ties entrants to the rules of their sheets.
use Rattle.std.specs.Prelude.{ℕ, ◌≡◌, List}
use Rattle.history_model.specs.Automaton.{IsAutomaton}
use Rattle.history_model.specs.Expectation.{ChooseAlike, player}
use Rattle.history_model.specs.Game.{Payoffs}
use Rattle.history_model.specs.Path.{match_path}
use Rattle.player_core.specs.State.{Lasting}
use Rattle.player_core.specs.Sheet.{IsSheet}
use Rattle.product_chain.specs.Expected.{expected_score}
use Rattle.sheet_rules.specs.ByRule.{IsOnlyByRules}
use Rattle.sheet_rules.specs.Entrants.{Entrant, IsSurePair, automaton_of_entrant, expects_in, rule_player}

-- the law: what an entrant plays chooses as the rule of its sheet; so what it plays expects what the entrant does, and the path of two
-- that leave nothing to chance is the one history in which every move follows both rules
pub record EntrantsFollowTheirRules : Type 0 where
  pub chooses : (players : List Lasting) (entrant : Entrant) → IsSheet entrant.sheet
      → ChooseAlike (player (automaton_of_entrant players entrant)) (rule_player players entrant)
  pub expects : (players : List Lasting) (game : Payoffs) (offset turns : ℕ) (own other : Entrant) → IsSheet own.sheet → IsSheet other.sheet
      → expected_score (player (automaton_of_entrant players own)) own.noise (player (automaton_of_entrant players other)) other.noise game offset turns
      ≡ expects_in players game offset turns own other
  pub path : (players : List Lasting) (left right : Entrant) (turns : ℕ) → IsSheet left.sheet → IsSheet right.sheet
      → IsAutomaton (automaton_of_entrant players left) → IsAutomaton (automaton_of_entrant players right) → IsSurePair players left right
      → IsOnlyByRules (rule_player players left) (rule_player players right) turns
      (match_path (automaton_of_entrant players left) (automaton_of_entrant players right) turns)
