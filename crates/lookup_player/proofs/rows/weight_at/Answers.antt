use Rattle.std.proofs.Common.{arith, ◌∙◌}
use Rattle.lookup_player.proofs.Places.{weight_early, weight_late}
use Rattle.lookup_player.proofs.rows.weight_at.Goals as goal

pub returns-then-turns-depth : goal.returns-then-turns-depth
returns-then-turns-depth c =
    c.opening.ensures ∙ weight_early c.args.sheet.now c.args.turns c.args.place (omega arith) c.requires.inside

pub returns-else-turns-depth : goal.returns-else-turns-depth
returns-else-turns-depth c =
    c.entry.ensures ∙ weight_late c.args.sheet.now c.args.turns c.args.place c.requires.shallow (omega arith) c.requires.inside
