use Rattle.std.proofs.Common.{sym}
use Rattle.lookup_player.proofs.Places.{seen_here, seen_inside}
use Rattle.lookup_player.proofs.known.known_at.Goals as goal

pub returns-clause-value : goal.returns-clause-value
returns-clause-value c =
    rw (c.others-others.ensures.value, c.firsts-firsts.ensures.value)
    (sym (seen_here c.args.sheet.now c.args.turns c.args.place c.requires.shallow c.requires.inside))

pub returns-clause-seen : goal.returns-clause-seen
returns-clause-seen c =
    rw (c.others-others.ensures.value, c.firsts-firsts.ensures.value)
    (seen_inside c.args.sheet.now c.args.turns c.args.place c.requires.shallow c.requires.inside)
