-- Entrants choose as their automata do, so what their automata expect is what they expect.
use Rattle.std.proofs.Common.{◌≡◌, List, refl, ap}
use Rattle.history_model.specs.Expectation.{player, ChooseAlike, WeightsDecide}
use Rattle.history_model.specs.Path.{PathIsOne}
use Rattle.history_model.specs.History.{History}
use Rattle.player_core.specs.declared.kind.Kind.{Kind}
use Rattle.player_core.specs.declared.kind.Kind.TheVariants.{MemoryOne, Machine, Lookup, Plug}
use Rattle.player_core.specs.State.{Lasting}
use Rattle.player_core.specs.Sheet.{SheetData, IsSheet}
use Rattle.player_core.specs.Entry.{entry_automaton, plug_automaton}
use Rattle.player_core.specs.Rule.{own_rule, rule, FollowsRule}
use Rattle.sheet_rules.specs.Entrants.{Entrant, automaton_of_entrant, expects_in, rule_player}
use Rattle.sheet_rules.specs.Laws.{EntrantsFollowTheirRules}
use Rattle.sheet_rules.proofs.Ruled.{path_by_rules}

module _ (vectors : FollowsRule MemoryOne) (machines : FollowsRule Machine) (tables : FollowsRule Lookup) where
  by_kind : (players : List Lasting) (kind : Kind) (sheet : SheetData) (history : History) → IsSheet sheet → sheet.kind ≡ kind
      → own_rule (entry_automaton players sheet) history ≡ rule sheet (plug_automaton players sheet.plug) history
  by_kind players MemoryOne sheet history valid is = vectors sheet (plug_automaton players sheet.plug) history valid is
  by_kind players Machine sheet history valid is = machines sheet (plug_automaton players sheet.plug) history valid is
  by_kind players Lookup sheet history valid is = tables sheet (plug_automaton players sheet.plug) history valid is
  by_kind players Plug sheet history valid is = rw is refl

  alike : (players : List Lasting) (entrant : Entrant) → IsSheet entrant.sheet → ChooseAlike (player (automaton_of_entrant players entrant)) (rule_player players entrant)
  alike players entrant valid = record { den = refl; weight = λ history. by_kind players entrant.sheet.kind entrant.sheet history valid refl }

  pub follow_rules : WeightsDecide → PathIsOne → EntrantsFollowTheirRules
  follow_rules decide one = record {
    chooses = alike;
    expects = λ players game offset turns own other valid other_valid.
        ap (λ z. record { numerator = z; denominator = (expects_in players game offset turns own other).denominator })
        (decide _ _ own.noise _ _ other.noise game offset turns (alike players own valid) (alike players other other_valid));
    path = λ players left right turns left_valid right_valid a b sure.
        path_by_rules one _ _ _ _ turns a b sure.left sure.right (alike players left left_valid) (alike players right right_valid);
  }
