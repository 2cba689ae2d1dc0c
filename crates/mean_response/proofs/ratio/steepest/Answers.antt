use Rattle.std.proofs.Common.{arith, ◌≡◌, ◌<◌, ◌-◌, length, subst, ap, ◌∙◌}
use Rattle.mean_response.specs.Graph.{opponent_of, game_of}
use Rattle.mean_response.specs.Walks.{layers_of, best_at}
use Rattle.mean_response.proofs.Ratios.{IsSteep, steep_replace, steep_keep, steep_skip, steep_made, shorter}
use Rattle.mean_response.proofs.ratio.steepest.Goals as goal
use Rattle.mean_response.proofs.ratio.steepest.Goals.{then-low-gt0+then-product, then-low-gt0+else-product, else-low-gt0}

pub loop-moves-preserved : goal.loop-moves-preserved
loop-moves-preserved c =
    let ls = layers_of c.args.table.now.items in
    let r = length (opponent_of c.args.graph.now).rows in
    let v = c.args.row in
    let k = c.loop-moves.moves in
    let rows : c.len-rows.result ≡ r = c.loop-moves.invariant.rows in
    let top : c.best-top.result ≡ best_at ls r v = c.loop-moves.invariant.top in
    let low : c.best-low.result ≡ best_at ls k v = c.best-low.ensures.value in
    let s : IsSteep ls r v k c.loop-moves.num c.loop-moves.den = c.loop-moves.invariant.steep in
    let inside : k < r = omega arith in
    record {
      rows = rows;
      top = top;
      steep = elim c.if-low-gt0.branch [
        | then-low-gt0+then-product w ↦ rw (w.num-is, w.den-is) (steep_replace ls r v k c.loop-moves.num c.loop-moves.den w.saturating_sub-rise.result (c.len-rows.result - k) s inside (omega arith)
            (w.saturating_sub-rise.ensures ∙ ap (λ x. x - c.best-low.result) top ∙ ap (λ x. best_at ls r v - x) low) (ap (λ x. x - k) rows) (omega (arith, w.product.ensures.value, w.product-then-low-gt0.ensures.value, w.if-product.true)) (omega (arith, w.saturating_sub-rise.ensures, c.best-top.ensures.few)) (omega arith))
        | then-low-gt0+else-product w ↦ rw (w.num-is, w.den-is) (steep_keep ls r v k c.loop-moves.num c.loop-moves.den w.saturating_sub-rise.result (c.len-rows.result - k) s (w.saturating_sub-rise.ensures ∙ ap (λ x. x - c.best-low.result) top ∙ ap (λ x. best_at ls r v - x) low) (ap (λ x. x - k) rows) (omega (arith, w.product.ensures.value, w.product-then-low-gt0.ensures.value, w.if-product.false)))
        | else-low-gt0 w ↦ rw (w.num-is, w.den-is) (steep_skip ls r v k c.loop-moves.num c.loop-moves.den s (omega arith))
      ];
    }

pub returns-clause-rise : goal.returns-clause-rise
returns-clause-rise c =
    let ls = layers_of c.args.table.now.items in
    let r = length (opponent_of c.args.graph.now).rows in
    let e : c.loop-moves.moves ≡ r = (let i = c.loop-moves.invariant.rows in omega arith) in
    let k = shorter (opponent_of c.args.graph.now) (game_of c.args.graph.now) c.requires.graph.automaton ls c.requires.table c.args.row c.requires.row c.requires.some in
    steep_made ls r c.args.row c.loop-moves.num c.loop-moves.den k.0 k.1 k.2 (subst (λ k. IsSteep ls r c.args.row k c.loop-moves.num c.loop-moves.den) e c.loop-moves.invariant.steep)
