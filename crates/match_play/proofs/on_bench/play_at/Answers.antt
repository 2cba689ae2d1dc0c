use Rattle.history_model.specs.History.{turned}
use Rattle.history_model.specs.Path.{match_path}
use Rattle.match_play.specs.Match.{after_match}
use Rattle.match_play.proofs.Places.{map_changed_by}
use Rattle.match_play.proofs.on_bench.play_at.Goals as goal

pub returns-clause-left : goal.returns-clause-left
returns-clause-left g c =
    map_changed_by _ _ _ _ _ _ _ _ _ (λ s t. after_match s (match_path s.lasting.automaton t.lasting.automaton c.args.turns))
    c.requires.left c.requires.right c.index_mut.ensures.value c.index_mut-2.ensures.value c.play.ensures.left

pub returns-clause-right : goal.returns-clause-right
returns-clause-right g c =
    map_changed_by _ _ _ _ _ _ _ _ _ (λ s t. after_match s (turned (match_path t.lasting.automaton s.lasting.automaton c.args.turns)))
    c.requires.right c.requires.left c.index_mut-2.ensures.value c.index_mut.ensures.value c.play.ensures.right
