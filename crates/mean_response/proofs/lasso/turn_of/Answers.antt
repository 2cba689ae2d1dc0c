use Rattle.std.proofs.Common.{arith, ◌≡◌, ◌<◌, ◌+◌, length, get_or, ◌∙◌, subst, slice_index, slice_set, refl}
use Rattle.history_model.specs.declared.moves.Move.TheVariants.{C}
use Rattle.std.proofs.lemmas.List.{take_more}
use Rattle.std.proofs.lemmas.Grind.{get_or_default_zero}
use Rattle.mean_response.specs.Graph.{opponent_of}
use Rattle.mean_response.proofs.Turning.{IsSeen, seen_more, seen_all}
use Rattle.mean_response.proofs.lasso.turn_of.Goals as goal

pub loop-j-preserved : goal.loop-j-preserved
loop-j-preserved c =
    let them = (opponent_of c.args.graph.now) in
    let ms = c.args.moves.now in
    let m = get_or ms c.loop-j.j C in
    let s : IsSeen them ms c.loop-j.j c.loop-j.seen.items c.loop-j.row = c.loop-j.invariant in
    let inside : c.loop-j.row < length c.loop-j.seen.items = rw s.size s.inside in
    let at : c.index.result.now ≡ slice_index c.loop-j.seen.items c.loop-j.row = c.index.ensures ∙ get_or_default_zero c.loop-j.seen.items c.loop-j.row c.index.result.now inside in
    rw c.exit-row.ensures.to
    (seen_more them c.requires.graph.automaton ms c.loop-j.j c.loop-j.seen.items (slice_set c.loop-j.seen.items c.loop-j.row (c.loop-j.j + 1)) c.loop-j.row m s (omega arith) refl (take_more ms c.loop-j.j C c.loop-j-test.true))

pub unreachable-requires : goal.unreachable-requires
unreachable-requires c =
    let s : IsSeen (opponent_of c.args.graph.now) c.args.moves.now c.loop-j.j c.loop-j.seen.items c.loop-j.row = c.loop-j.invariant in
    let all : c.loop-j.j ≡ length (opponent_of c.args.graph.now).rows = omega arith in
    let inside : c.loop-j.row < length c.loop-j.seen.items = rw s.size s.inside in
    let at : c.index-2.result.now ≡ slice_index c.loop-j.seen.items c.loop-j.row = c.index-2.ensures ∙ get_or_default_zero c.loop-j.seen.items c.loop-j.row c.index-2.result.now inside in
    seen_all (opponent_of c.args.graph.now) c.requires.graph.automaton c.args.moves.now c.loop-j.seen.items c.loop-j.row (subst (λ j. IsSeen (opponent_of c.args.graph.now) c.args.moves.now j c.loop-j.seen.items c.loop-j.row) all s) (omega arith)
