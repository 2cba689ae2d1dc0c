use Rattle.std.proofs.Common.{◌≡◌, ◌+◌, true, false, slice_get, Some, Ok, Err, subst, length, arith}
use Rattle.std.specs.List.{list_any}
use Rattle.refusals.specs.declared.refusal.Refusal.TheVariants.{BadRows, TooManyRows}
use Rattle.machine_rows.specs.Rows.{leaves, with_row}
use Rattle.machine_rows.specs.RowsRead.{RowsRead}
use Rattle.machine_rows.proofs.Exits.{number_kept}
use Rattle.machine_rows.proofs.Held.{doubled_at, inside_exits, two_states, refuses_doubled, refuses_many, takes_row, held_more}
use Rattle.machine_rows.proofs.machine.MachineRows.with.Goals as goal

pub returns-then-is_some-clause-rows : goal.returns-then-is_some-clause-rows
returns-then-is_some-clause-rows c =
    let s = c.self.inside in
    let row = c.args.row in
    let e = doubled_at s.rows.items _ _ _ row.state c.exits_at.result row.heard (c.in_ok-place.ensures.kept s.rows.items c.self.invariant.right) c.in_ok-place.ensures.place c.exits_at.ensures in
    let doubled : list_any (leaves row.state row.heard) s.rows.items ≡ true = cc in
    let P : RowsRead → Type 0 = λ read. with_row c.args.entry read.start read.rows (Some row) ≡ Err (BadRows c.args.entry (length read.rows + 1)) in
    rw c.following-following.ensures (subst P c.self.view_is (refuses_doubled c.args.entry s.start s.rows.items row doubled))

pub returns-then-len-gt-MOST_STATES-clause-rows : goal.returns-then-len-gt-MOST_STATES-clause-rows
returns-then-len-gt-MOST_STATES-clause-rows c =
    let s = c.self.inside in
    let row = c.args.row in
    let e = doubled_at s.rows.items _ _ _ row.state c.exits_at.result row.heard (c.in_ok-place.ensures.kept s.rows.items c.self.invariant.right) c.in_ok-place.ensures.place c.exits_at.ensures in
    let new : list_any (leaves row.state row.heard) s.rows.items ≡ false = cc in
    let states = two_states s.start s.rows.items row _ _ _ c.self.invariant.states_are c.in_ok-place.ensures.states c.in_ok-add.ensures.states in
    let P : RowsRead → Type 0 = λ read. with_row c.args.entry read.start read.rows (Some row) ≡ Err (TooManyRows c.args.entry) in
    subst P c.self.view_is (refuses_many c.args.entry s.start s.rows.items row _ new states (omega (arith, c.len.ensures.len)))

pub leave-requires : goal.leave-requires
leave-requires c =
    let s = c.self.inside in
    let right = c.in_ok-add.ensures.kept s.rows.items (c.in_ok-place.ensures.kept s.rows.items c.self.invariant.right) in
    let later : slice_get c.add-2.new.self.numbers.keys c.in_ok-place.place ≡ Some c.args.row.state = rw c.in_ok-add.ensures.states (number_kept _ c.args.row.next _ c.args.row.state c.in_ok-place.ensures.place) in
    inside_exits s.rows.items _ _ _ c.args.row.state right later

pub invariant_of-result : goal.invariant_of-result
invariant_of-result c =
    let s = c.self.inside in
    let row = c.args.row in
    let right = c.in_ok-add.ensures.kept s.rows.items (c.in_ok-place.ensures.kept s.rows.items c.self.invariant.right) in
    let e = doubled_at s.rows.items _ _ _ row.state c.exits_at.result row.heard (c.in_ok-place.ensures.kept s.rows.items c.self.invariant.right) c.in_ok-place.ensures.place c.exits_at.ensures in
    let new : list_any (leaves row.state row.heard) s.rows.items ≡ false = cc in
    rw (c.in_ok-push.ensures.items, c.leave.ensures.states, c.leave.ensures.exits)
    (held_more s.start s.rows.items row _ _ _ _ _ _ c.self.invariant c.in_ok-place.ensures.states c.in_ok-add.ensures.states right
    c.in_ok-add.ensures.unique c.in_ok-place.ensures.place new (omega (arith, c.len.ensures.len)))

pub returns-clause-rows : goal.returns-clause-rows
returns-clause-rows c =
    let s = c.self.inside in
    let row = c.args.row in
    let e = doubled_at s.rows.items _ _ _ row.state c.exits_at.result row.heard (c.in_ok-place.ensures.kept s.rows.items c.self.invariant.right) c.in_ok-place.ensures.place c.exits_at.ensures in
    let new : list_any (leaves row.state row.heard) s.rows.items ≡ false = cc in
    let states = two_states s.start s.rows.items row _ _ _ c.self.invariant.states_are c.in_ok-place.ensures.states c.in_ok-add.ensures.states in
    let P : RowsRead → Type 0 = λ read. with_row c.args.entry read.start read.rows (Some row) ≡ Ok c.push.new.self.items in
    subst P c.self.view_is (rw c.in_ok-push.ensures.items (takes_row c.args.entry s.start s.rows.items row _ new states (omega (arith, c.len.ensures.len))))
