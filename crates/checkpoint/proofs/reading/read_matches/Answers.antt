use Rattle.std.proofs.Common.{◌≡◌, ◌++◌, ◌∷◌, [], ◌∙◌, arith}
use Rattle.texts.specs.Grammar.{pieces}
use Rattle.checkpoint.proofs.LineLaws.{match_went}
use Rattle.checkpoint.proofs.reading.read_matches.Goals as goal

pub loop-pair-preserved : goal.loop-pair-preserved
loop-pair-preserved c =
    let l = c.loop-pair in
    let row = c.in_ok-row.row in
    let went =
    match_went c.args.game.now c.args.offset l.items.items c.args.expected.now c.pair-item.result l.pair-index l.number l.at (pieces l.rest.now) (pieces c.in_ok-row.more.now) row c.loop-pair-test.true c.pair-item.is c.in_ok-row.ensures.row in
    let pushed : c.push.new.self.items ≡ l.items.items ++ row ∷ [] = c.in_ok-push.ensures.items in
    record {
      reads = rw pushed (went ∙ l.invariant.reads);
      count = omega (arith, l.invariant.count);
      room = omega (arith, l.invariant.room, c.in_ok-row.ensures.shorter);
    }
