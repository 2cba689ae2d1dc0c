-- Entrants: a sheet and the noise of its moves, and what they choose by, play and expect.
use Rattle.std.specs.Prelude.{ℕ, List, [], map, slice_index_or}
use Rattle.history_model.specs.Automaton.{Automaton}
use Rattle.history_model.specs.Expectation.{Chooser}
use Rattle.history_model.specs.Game.{Payoffs}
use Rattle.history_model.specs.Noise.{FlipRate, no_noise}
use Rattle.fixed_span.specs.Span.{Fraction}
use Rattle.player_core.specs.State.{Lasting, no_name}
use Rattle.player_core.specs.Sheet.{SheetData}
use Rattle.player_core.specs.declared.kind.Kind.TheVariants.{Plug}
use Rattle.player_core.specs.Entry.{entry_automaton, plug_automaton}
use Rattle.player_core.specs.Rule.{rule}
use Rattle.product_chain.specs.Expected.{expected_score, IsSureMatch}
use Rattle.sheet_rules.specs.declared.contestant.Contestant.{Contestant}

-- a sheet, and the noise of its moves
pub record Entrant : Type 0 where
  pub sheet : SheetData
  pub noise : FlipRate

-- how it chooses: after each history by the rule of its sheet, and a plug by its automaton on the bench
abbrev pub rule_player : List Lasting → Entrant → Chooser
rule_player players entrant = record {
  den = (entry_automaton players entrant.sheet).den;
  weight = rule entrant.sheet (plug_automaton players entrant.sheet.plug);
}

-- what it plays on the bench
abbrev pub automaton_of_entrant : List Lasting → Entrant → Automaton
automaton_of_entrant players entrant = entry_automaton players entrant.sheet

-- neither of the two leaves anything to chance
abbrev pub IsSurePair : List Lasting → Entrant → Entrant → Type 0
IsSurePair players left right = IsSureMatch (automaton_of_entrant players left) left.noise (automaton_of_entrant players right) right.noise

-- what one expects to score against another in so many turns of a game whose payoffs are each less by an offset
abbrev pub expects_in : List Lasting → Payoffs → ℕ → ℕ → Entrant → Entrant → Fraction
expects_in players game offset turns own other =
    expected_score (rule_player players own) own.noise (rule_player players other) other.noise game offset turns

-- ---- lists of entrants

-- what stands where there is none
abbrev pub no_entrant : Entrant
no_entrant = record {
  sheet = record { kind = Plug; den = 1; own = 0; other = 0; first = 0; opening = []; table = []; next = []; plug = no_name };
  noise = no_noise;
}

abbrev pub entrant_at : List Entrant → ℕ → Entrant
entrant_at entrants place = slice_index_or entrants place no_entrant

-- what the one at a place expects against the one at another
abbrev pub expects_at : List Lasting → Payoffs → ℕ → ℕ → List Entrant → ℕ → ℕ → Fraction
expects_at players game offset turns entrants i j = expects_in players game offset turns (entrant_at entrants i) (entrant_at entrants j)

-- the entrant that the program's code names by its sheet and noise
abbrev pub entrant_of : Contestant → Entrant
entrant_of contestant = record { sheet = contestant.sheet.now; noise = contestant.noise.now }

abbrev pub entrants_of : List Contestant → List Entrant
entrants_of contestants = map entrant_of contestants
