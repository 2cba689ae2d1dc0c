use Rattle.lookup_player.specs.Lookup.{as_seen}
use Rattle.lookup_player.proofs.Places.{seen_next}
use Rattle.lookup_player.proofs.rows.next_row.Goals as goal

pub row_of_known-requires-clause-seen : goal.row_of_known-requires-clause-seen
row_of_known-requires-clause-seen c =
    rw c.known_after.ensures
    (seen_next c.args.sheet.now (as_seen c.args.known) c.args.mine c.args.theirs c.requires.seen.turns c.requires.seen.first)
