use Rattle.std.proofs.Common.{◌∙◌}
use Rattle.report_lines.proofs.Raising.{made_game, made_is}
use Rattle.report_lines.proofs.line.ShownGame.raised.Goals as goal

pub game_of-requires : goal.game_of-requires
game_of-requires c =
    made_game c.args.self.now _ (made_is c.args.self.now _ _ _ _ _ c.requires.line c.offset-offset.ensures.value c.raised-r.ensures.value c.raised-s.ensures.value c.raised-t.ensures.value c.raised-p.ensures.value) c.requires.near

pub returns : goal.returns
returns c =
    c.game_of.ensures
    ∙ made_is c.args.self.now _ _ _ _ _ c.requires.line c.offset-offset.ensures.value c.raised-r.ensures.value c.raised-s.ensures.value c.raised-t.ensures.value c.raised-p.ensures.value
