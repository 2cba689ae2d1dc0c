use Rattle.std.proofs.Common.{refl}
use Rattle.lookup_player.proofs.Places.{few_plays}
use Rattle.lookup_player.proofs.known.known_after.Goals as goal

pub last_after-requires-clause-few : goal.last_after-requires-clause-few
last_after-requires-clause-few c = few_plays c.args.known.own _ _ c.requires.seen.own c.depth-depth.ensures.valid.own_few

pub last_after-requires-2-clause-few : goal.last_after-requires-2-clause-few
last_after-requires-2-clause-few c = few_plays c.args.known.other _ _ c.requires.seen.other c.depth-depth.ensures.valid.other_few

pub returns : goal.returns
returns c =
    let first = c.first_after.ensures c.args.mine in
    rw (first, c.last_after.ensures, c.last_after-2.ensures, c.owns.ensures.value, c.others.ensures.value, c.min-turns.ensures, c.depth-depth.ensures.value) refl
