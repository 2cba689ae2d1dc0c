use Rattle.std.proofs.Common.{◌≡◌, ◌∙◌, sym, subst, arith, IfOk}
use Rattle.player_core.specs.Sheet.{SheetData, IsMachine}
use Rattle.drill.specs.Drill.{nexts_drawn, plays_drawn}
use Rattle.drill.proofs.Drawing.{draw-first, is_machine, next_entered, play_entered, sheet_drawn, state_after}
use Rattle.drill.proofs.machines.draw_machine.Goals as goal

pub loop-entry-init : goal.loop-entry-init
unfolding nexts_drawn plays_drawn
loop-entry-init c = record {
  drawn = c.draw_move-opening.ensures.moved ∙ draw-first _;
  next = c.new-next.ensures.items;
  table = c.new-table.ensures.items;
}

pub loop-entry-preserved : goal.loop-entry-preserved
loop-entry-preserved c =
    let now = c.loop-entry.invariant.drawn in
    let next = c.draw_state.ensures in
    let play = c.draw_move.ensures in
    record {
      drawn = state_after _ _ _ _ _ now next.moved play.moved;
      next = next_entered _ _ _ _ _ _ now next.drawn c.loop-entry.invariant.next c.in_ok-push.ensures.items;
      table = play_entered _ _ _ _ _ _ _ now next.moved play.drawn c.loop-entry.invariant.table c.in_ok-push-2.ensures.items;
    }

pub machine_with-requires : goal.machine_with-requires
machine_with-requires c =
    subst IsMachine
    (sheet_drawn c.args.draws.now.state c.loop-entry._entry _ _ _ (omega arith)
    c.draw_move-opening.ensures.drawn c.loop-entry.invariant.table c.loop-entry.invariant.next)
    (is_machine c.args.draws.now.state 0)

pub returns-clause-sheet : goal.returns-clause-sheet
returns-clause-sheet c =
    let P : SheetData → Type 0 = λ made. IfOk c.machine_with.result (λ sheet. sheet ≡ made) in
    subst P
    (sym (sheet_drawn c.args.draws.now.state c.loop-entry._entry _ _ _ (omega arith)
    c.draw_move-opening.ensures.drawn c.loop-entry.invariant.table c.loop-entry.invariant.next))
    c.machine_with.ensures
