use Rattle.std.proofs.Common.{arith, ◌≡◌, ◌≤◌, ◌<◌, ◌+◌, ◌*◌, ◌^◌, [], length, sym, ap, ◌∙◌, slice_index, slice_index_or}
use Rattle.std.proofs.lemmas.Grind.{get_or_default_zero}
use Rattle.mean_response.specs.Graph.{opponent_of}
use Rattle.mean_response.specs.Walks.{layers_of, best_at}
use Rattle.mean_response.proofs.Tables.{pushed_size, layer_item}
use Rattle.mean_response.proofs.table.best.Goals as goal

pub index-requires-2 : goal.index-requires-2
index-requires-2 c =
    let ls = c.args.table.now.items in
    let s : length (layers_of ls) ≡ length ls = pushed_size ls in
    let t : length (layers_of ls) ≡ length (opponent_of c.args.graph.now).rows + 1 = c.requires.table.size in
    let inside : c.args.moves < length ls = omega arith in
    let e : slice_index_or (layers_of ls) c.args.moves [] ≡ c.index.result.now.items = layer_item ls c.args.moves c.index.result.now inside ∙ ap (λ l. l.items) (sym c.index.ensures) in
    let z : length c.index.result.now.items ≡ length (opponent_of c.args.graph.now).rows = ap length (sym e) ∙ (c.requires.table.each c.args.moves (omega arith)).size in
    omega arith

pub returns-clause-value : goal.returns-clause-value
returns-clause-value c =
    let ls = c.args.table.now.items in
    let s : length (layers_of ls) ≡ length ls = pushed_size ls in
    let t : length (layers_of ls) ≡ length (opponent_of c.args.graph.now).rows + 1 = c.requires.table.size in
    let inside : c.args.moves < length ls = omega arith in
    let e : slice_index_or (layers_of ls) c.args.moves [] ≡ c.index.result.now.items = layer_item ls c.args.moves c.index.result.now inside ∙ ap (λ l. l.items) (sym c.index.ensures) in
    let z : length c.index.result.now.items ≡ length (opponent_of c.args.graph.now).rows = ap length (sym e) ∙ (c.requires.table.each c.args.moves (omega arith)).size in
    let v : c.index-2.result.now ≡ slice_index c.index.result.now.items c.args.row = c.index-2.ensures ∙ get_or_default_zero c.index.result.now.items c.args.row c.index-2.result.now (omega arith) in
    v ∙ ap (λ xs. slice_index xs c.args.row) (sym e)

pub returns-clause-few : goal.returns-clause-few
returns-clause-few c =
    let v : c.index-2.result.now ≡ best_at (layers_of c.args.table.now.items) c.args.moves c.args.row = returns-clause-value c in
    let t : length (layers_of c.args.table.now.items) ≡ length (opponent_of c.args.graph.now).rows + 1 = c.requires.table.size in
    let b : best_at (layers_of c.args.table.now.items) c.args.moves c.args.row ≤ c.args.moves * 10 ^ 6 + 1 = (c.requires.table.each c.args.moves (omega arith)).bound c.args.row in
    let few : c.args.moves ≤ 512 = omega arith in
    omega arith
