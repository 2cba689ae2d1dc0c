use Rattle.std.proofs.Common.{◌∙◌, arith, rules, FitsSigned}
use Rattle.std.proofs.lemmas.Int.{to_z-of_z}
use Rattle.std.specs.Int.{w128}
use Rattle.report_making.proofs.DrillMade.{shows, valid_made}
use Rattle.report_making.proofs.drill.drill_report.Goals as goal

pub returns-clause-valid : goal.returns-clause-valid
returns-clause-valid c =
    let fits : FitsSigned w128 c.args.sum = search rules in
    valid_made c.names_grow.ensures c.args.number c.args.names.now c.args.first.now c.args.sum _ _ _ _ _ _
    (omega (arith, c.ranges.number.fits)) c.requires.few c.in_ok-order.ensures.are_names c.requires.machines c.requires.sum
    c.drill_game.ensures c.no_noise.ensures (c.from_vec.ensures ∙ c.new.ensures.items) c.in_ok-order.ensures.order c.in_ok-moved.ensures (to_z-of_z w128 c.args.sum fits)

pub returns-clause-shows : goal.returns-clause-shows
returns-clause-shows c = shows c.names_grow.ensures c.args.names.now c.args.first.now
