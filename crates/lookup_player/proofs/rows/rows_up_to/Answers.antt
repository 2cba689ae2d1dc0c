use Rattle.std.proofs.Common.{arith}
use Rattle.lookup_player.proofs.Places.{rows_more}
use Rattle.lookup_player.proofs.Tables.{turns_fit}
use Rattle.lookup_player.proofs.rows.rows_up_to.Goals as goal

pub overflow_add-result : goal.overflow_add-result
overflow_add-result c =
    rw (rows_more c.args.sheet.now c.args.turns c.args.fewer _ _ _ c.requires.fewer c.owns.ensures.value c.others.ensures.value c.firsts.ensures.value)
    (omega (arith, turns_fit c.args.sheet.now c.args.turns (c.shape.ensures.lookup c.requires.table) c.requires.shallow))

pub returns-clause-value : goal.returns-clause-value
returns-clause-value c =
    rows_more c.args.sheet.now c.args.turns c.args.fewer _ _ _ c.requires.fewer c.owns.ensures.value c.others.ensures.value c.firsts.ensures.value

pub returns-clause-within : goal.returns-clause-within
returns-clause-within c =
    rw (rows_more c.args.sheet.now c.args.turns c.args.fewer _ _ _ c.requires.fewer c.owns.ensures.value c.others.ensures.value c.firsts.ensures.value)
    (turns_fit c.args.sheet.now c.args.turns (c.shape.ensures.lookup c.requires.table) c.requires.shallow)
