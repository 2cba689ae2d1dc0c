use Rattle.std.proofs.Common.{rules, arith, ◌≡◌, replicate}
use Rattle.player_core.specs.Holder.{cooperate}
use Rattle.player_core.proofs.sheet_player.SheetPlayer.new.Goals as goal

pub invariant_of-result : goal.invariant_of-result
invariant_of-result g c =
    let made : c.in_ok-vec.field-0.items ≡ replicate 512 cooperate = c.in_ok-vec.ensures.items_if_clones_equal (search rules) in
    c.rows_are_held.ensures.new g.R.SheetRows.kind c.in_ok-vec.field-0.items _ _ (omega arith) (omega arith) made
