use Rattle.std.proofs.Common.{◌+◌}
use Rattle.std.proofs.lemmas.List.{take_rest}
use Rattle.texts.proofs.GrammarLaws.{line_found, line_none, lacks_more}
use Rattle.texts.proofs.cuts.first_line.Goals as goal

pub returns-then-text-i-eq10-clause-line : goal.returns-then-text-i-eq10-clause-line
returns-then-text-i-eq10-clause-line c =
    rw (take_rest c.args.text.now (c.loop-i.i + 1)) (line_found c.args.text.now c.loop-i.i c.loop-i-test.true c.loop-i.invariant c.if-text-i-eq10.true)

pub loop-i-preserved : goal.loop-i-preserved
loop-i-preserved c = lacks_more c.args.text.now c.loop-i.i c.loop-i-test.true c.loop-i.invariant c.if-text-i-eq10.false

pub returns-clause-last : goal.returns-clause-last
returns-clause-last c = line_none c.args.text.now c.loop-i.i c.loop-i-test.false c.loop-i.invariant
