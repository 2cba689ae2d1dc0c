use Rattle.std.proofs.Common.{◌≡◌, ◌*◌}
use Rattle.drill.specs.Drill.{draw, nexts_drawn, plays_drawn}
use Rattle.drill.proofs.machines.draw_machine.Given as goal

abbrev pub invariant-loop-entry : goal.invariant-loop-entry
invariant-loop-entry l = record {
  drawn : l.draws.state ≡ draw l.fn.draws.state (2 * l._entry);
  next : l.next.items ≡ nexts_drawn l.fn.draws.state 0 l._entry;
  table : l.table.items ≡ plays_drawn l.fn.draws.state 0 l._entry;
}
