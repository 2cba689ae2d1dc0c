use Rattle.std.proofs.Common.{◌≡◌, ◌≤◌, ◌+◌, ◌^◌, [], ◌∷◌, ◌++◌, length, length-append, ap, ◌∙◌, arith}
use Rattle.mean_response.specs.Graph.{opponent_of}
use Rattle.mean_response.specs.Walks.{layers_of, IsHeight}
use Rattle.mean_response.proofs.Heights.{pushed_number}
use Rattle.mean_response.proofs.potentials.heights.Goals as goal

pub loop-row-preserved : goal.loop-row-preserved
loop-row-preserved c =
    let ls = layers_of c.args.table.now.items in
    let r = length (opponent_of c.args.graph.now).rows in
    let i = c.loop-row.invariant in
    let h = c.height.result in
    let e : c.push.new.self.items ≡ c.loop-row.all.items ++ h ∷ [] = c.in_ok-push.ensures.items in
    record {
      inside = omega arith;
      size = ap length e ∙ length-append c.loop-row.all.items (h ∷ []) ∙ ap (λ n. n + 1) i.size;
      each = rw e (pushed_number (IsHeight ls r c.args.num c.args.den) c.loop-row.all.items c.loop-row.row h i.size i.each c.height.ensures.height);
      few = rw e (pushed_number (λ v x. x ≤ 10 ^ 13) c.loop-row.all.items c.loop-row.row h i.size i.few c.height.ensures.few);
    }
