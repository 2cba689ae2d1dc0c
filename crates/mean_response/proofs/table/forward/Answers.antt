use Rattle.std.proofs.Common.{◌+◌, [], ◌∷◌, ◌++◌, ap, ◌∙◌, sym, length-append}
use Rattle.history_model.specs.declared.moves.Move.TheVariants.{C}
use Rattle.history_model.specs.Mean.{step}
use Rattle.mean_response.specs.Graph.{opponent_of}
use Rattle.mean_response.proofs.Walking.{led-append}
use Rattle.mean_response.proofs.table.forward.Goals as goal

pub loop-move-preserved : goal.loop-move-preserved
loop-move-preserved c =
    let r = c.loop-move.invariant.reached in
    record {
      inside = c.exit-row.ensures.inside;
      reached = record {
        moves = r.moves ++ C ∷ [];
        size = length-append r.moves (C ∷ []) ∙ ap (λ n. n + 1) r.size;
        leads = led-append (opponent_of c.args.graph.now) (opponent_of c.args.graph.now).start r.moves (C ∷ []) ∙ ap (λ v. step (opponent_of c.args.graph.now) v C) r.leads ∙ sym c.exit-row.ensures.to;
      };
    }
