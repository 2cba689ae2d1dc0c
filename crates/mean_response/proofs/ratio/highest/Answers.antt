use Rattle.std.proofs.Common.{arith, rules, ◌≡◌, ◌<◌, length, subst, ap, ◌∙◌}
use Rattle.mean_response.specs.Graph.{opponent_of, game_of}
use Rattle.mean_response.specs.Walks.{layers_of, best_at, IsReached}
use Rattle.mean_response.proofs.Ratios.{IsTop, top_replace, top_keep, top_skip, top_first}
use Rattle.mean_response.proofs.ratio.highest.Goals as goal
use Rattle.mean_response.proofs.ratio.highest.Goals.{then-best-gt0+then-product, then-best-gt0+else-product, else-best-gt0}

pub loop-row-init : goal.loop-row-init
loop-row-init c = let e : c.len-rows.result ≡ length (opponent_of c.args.graph.now).rows = omega arith in record {
  rows = search rules;
  top = top_first (opponent_of c.args.graph.now) (game_of c.args.graph.now) (layers_of c.args.table.now.items) c.requires.table c.forward-at.result c.forward-at.ensures.inside (subst (λ n. IsReached (opponent_of c.args.graph.now) n c.forward-at.result) e c.forward-at.ensures.reached);
}

pub loop-row-preserved : goal.loop-row-preserved
loop-row-preserved c =
    let ls = layers_of c.args.table.now.items in
    let r = length (opponent_of c.args.graph.now).rows in
    let v = c.loop-row.row in
    let rows : c.len-rows.result ≡ r = c.loop-row.invariant.rows in
    let b : c.best.result ≡ best_at ls r v = c.best.ensures.value ∙ ap (λ k. best_at ls k v) rows in
    let t : IsTop ls r v c.loop-row.at c.loop-row.num c.loop-row.den = c.loop-row.invariant.top in
    let inside : v < r = omega arith in
    record {
      rows = rows;
      top = elim c.if-best-gt0.branch [
        | then-best-gt0+then-product w ↦ rw (w.at-is, w.num-is, w.den-is) (
            let some : 0 < best_at ls r v = (let p = w.if-best-gt0.true in omega arith) in
            top_replace ls r v c.loop-row.at c.loop-row.num c.loop-row.den w.steepest-least.result.num w.steepest-least.result.den t inside some
            w.steepest-least.ensures.least w.steepest-least.ensures.rise (omega (arith, w.product.ensures.value, w.product-then-best-gt0.ensures.value, w.if-product.true)) w.steepest-least.ensures.num_few w.steepest-least.ensures.den_few)
        | then-best-gt0+else-product w ↦ rw (w.at-is, w.num-is, w.den-is) (top_keep ls r v c.loop-row.at c.loop-row.num c.loop-row.den w.steepest-least.result.num w.steepest-least.result.den t w.steepest-least.ensures.rise (omega (arith, w.product.ensures.value, w.product-then-best-gt0.ensures.value, w.if-product.false)))
        | else-best-gt0 w ↦ rw (w.at-is, w.num-is, w.den-is) (top_skip ls r v c.loop-row.at c.loop-row.num c.loop-row.den t (omega arith))
      ];
    }
