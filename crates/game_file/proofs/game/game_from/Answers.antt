use Rattle.std.proofs.Common.{◌∙◌, arith}
use Rattle.game_file.proofs.Raising.{game_is, near_game, offset_is}
use Rattle.game_file.proofs.game.game_from.Goals as goal

pub signed-requires : goal.signed-requires
signed-requires c =
    near_game c.args.file.now _ c.requires.within
    (game_is c.args.file.now _ _ _ _ _ c.requires.within c.needed_offset-offset.ensures.value c.raised-r.ensures.value c.raised-s.ensures.value c.raised-t.ensures.value c.raised-p.ensures.value)
    (omega (arith, c.min.ensures, c.min-2.ensures, c.min-least.ensures, c.max.ensures, c.max-2.ensures, c.max-most.ensures, c.if-least-most.false))

pub returns-clause-offset : goal.returns-clause-offset
returns-clause-offset c =
    offset_is c.args.file.now _ _
    (c.signed.ensures ∙ game_is c.args.file.now _ _ _ _ _ c.requires.within c.needed_offset-offset.ensures.value c.raised-r.ensures.value c.raised-s.ensures.value c.raised-t.ensures.value c.raised-p.ensures.value)
    c.needed_offset-offset.ensures.value c.needed_offset-offset.ensures.bound
