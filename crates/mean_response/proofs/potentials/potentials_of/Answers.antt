use Rattle.std.proofs.Common.{arith, ◌≡◌, ◌≤◌, ◌<◌, ◌+◌, ◌*◌, ◌^◌, [], ◌∷◌, ◌++◌, length, subst, ap, ◌∙◌, slice_index, slice_index_or, length-append}
use Rattle.mean_response.specs.Graph.{opponent_of, game_of}
use Rattle.mean_response.specs.Walks.{layers_of}
use Rattle.mean_response.specs.Raised.{IsRaised}
use Rattle.mean_response.proofs.Heights.{potential, pushed}
use Rattle.std.proofs.lemmas.Grind.{get_or_default_zero}
use Rattle.mean_response.proofs.potentials.potentials_of.Goals as goal

pub loop-row-preserved : goal.loop-row-preserved
loop-row-preserved c =
    let base = c.args.den + c.product.result in
    let hs = c.in_ok-raised.raised.items in
    let v = c.loop-row.row in
    let e : c.push.new.self.items ≡ c.loop-row.all.items ++ c.potential.result ∷ [] = c.in_ok-push.ensures.items in
    let size : length c.loop-row.all.items ≡ v = c.loop-row.invariant.size in
    let inside : v < length hs = rw c.in_ok-raised.ensures.size (omega arith) in
    let at : c.index.result.now ≡ slice_index hs v = c.index.ensures ∙ get_or_default_zero hs v c.index.result.now inside in
    let new : IsRaised (slice_index hs v) base c.potential.result = subst (λ h. IsRaised h base c.potential.result) at c.potential.ensures in
    record {
      inside = omega arith;
      size = ap length e ∙ length-append c.loop-row.all.items (c.potential.result ∷ []) ∙ ap (λ n. n + 1) size;
      each = rw e (pushed (λ v o. IsRaised (slice_index hs v) base o) c.loop-row.all.items v c.potential.result size c.loop-row.invariant.each new);
    }

pub returns-clause-each : goal.returns-clause-each
returns-clause-each c = λ v d inside.
    let them = (opponent_of c.args.graph.now) in
    let hs = c.in_ok-raised.raised.items in
    let rows : c.len.result ≡ length them.rows = omega arith in
    let base : c.args.den + c.product.result ≡ c.args.den + c.args.num * length them.rows = ap (λ x. c.args.den + x) (c.product.ensures.value ∙ ap (λ x. c.args.num * x) rows) in
    let i : c.loop-row.row ≡ length them.rows = (let j = c.loop-row.invariant.inside in omega arith) in
    let r : IsRaised (slice_index hs v) (c.args.den + c.args.num * length them.rows) (slice_index_or c.loop-row.all.items v d) = subst (λ b. IsRaised (slice_index hs v) b (slice_index_or c.loop-row.all.items v d)) base (c.loop-row.invariant.each v d (omega arith)) in
    let small : c.args.den + c.args.num * length them.rows ≤ 10 ^ 13 = rw (← base) (let p = c.product.ensures.few in omega arith) in
    potential them (game_of c.args.graph.now) c.requires.graph.automaton (layers_of c.args.table.now.items) c.requires.table c.args.num c.args.den c.requires.peak.0 c.requires.peak.1 (slice_index hs) c.in_ok-raised.ensures.each v
    (slice_index_or c.loop-row.all.items v d) inside (c.in_ok-raised.ensures.few v inside) small r
