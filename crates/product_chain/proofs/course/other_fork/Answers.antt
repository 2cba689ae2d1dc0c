use Rattle.std.proofs.Common.{ap, ◌∙◌, subst, ◌<◌, length, sym}
use Rattle.history_model.specs.declared.moves.Move.TheVariants.{C, D}
use Rattle.history_model.specs.Automaton.{Row, next_of}
use Rattle.product_chain.proofs.course.other_fork.Goals as goal

pub returns : goal.returns
returns c =
    let a = c.args.grid.now in
    let ec = c.next_after.ensures ∙ ap (λ (r : Row). next_of r C c.args.mine) c.row-row.ensures.row in
    let ed = c.next_after-2.ensures ∙ ap (λ (r : Row). next_of r D c.args.mine) c.row-row.ensures.row in
    record {
      c = ec;
      d = ed;
      inside = record {
        c = subst (λ k. k < length a.rows) (sym ec) (c.row-row.ensures.automaton.closed c.args.row C c.args.mine c.requires);
        d = subst (λ k. k < length a.rows) (sym ed) (c.row-row.ensures.automaton.closed c.args.row D c.args.mine c.requires);
      };
    }
