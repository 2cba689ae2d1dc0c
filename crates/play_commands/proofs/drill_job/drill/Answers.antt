use Rattle.std.proofs.Common.{ap, subst, sym, ◌∙◌, length, rules, arith, FitsSigned}
use Rattle.std.specs.Int.{w128}
use Rattle.std.proofs.lemmas.Int.{to_z-of_z}
use Rattle.report_rules.specs.Valid.{IsTotal}
use Rattle.play_commands.proofs.DrillReports.{asked_if, first_few, machines_named, right_drill_if, sum_is_total, told_entries}
use Rattle.play_commands.proofs.Sparing.{may_drill, nobody}
use Rattle.play_commands.proofs.drill_job.drill.Goals as goal

pub results-requires-clause-machines : goal.results-requires-clause-machines
results-requires-clause-machines g c = rw c.as_slice.ensures.value (record { many = c.in_ok-sheets.ensures.many; machines = c.in_ok-sheets.ensures.machines; valid = c.in_ok-sheets.ensures.valid })

pub first_of-requires : goal.first_of-requires
first_of-requires g c =
    let told = told_entries _ _ c.requires c.as_slice.result.now _ c.as_slice-entries.result.now c.as_slice-entries.ensures c.in_ok-results.ensures.told in
    omega (arith, told.many)

pub sum_of_totals-sum-requires-clause-few : goal.sum_of_totals-sum-requires-clause-few
sum_of_totals-sum-requires-clause-few g c =
    let told = told_entries _ _ c.requires c.as_slice.result.now _ c.as_slice-entries.result.now c.as_slice-entries.ensures c.in_ok-results.ensures.told in
    omega (arith, told.many)

pub sum_of_totals-sum-requires-clause-small : goal.sum_of_totals-sum-requires-clause-small
sum_of_totals-sum-requires-clause-small g c =
    (told_entries _ _ c.requires c.as_slice.result.now _ c.as_slice-entries.result.now c.as_slice-entries.ensures c.in_ok-results.ensures.told).small

pub drill_report-requires-clause-few : goal.drill_report-requires-clause-few
drill_report-requires-clause-few g c =
    let told = told_entries _ _ c.requires c.as_slice.result.now _ c.as_slice-entries.result.now c.as_slice-entries.ensures c.in_ok-results.ensures.told in
    let is = c.deref-2.ensures.value ∙ c.in_ok-first.ensures in
    omega (arith, ap length is, first_few c.as_slice-entries.result.now, told.many)

pub drill_report-requires-clause-machines : goal.drill_report-requires-clause-machines
drill_report-requires-clause-machines g c =
    let told = told_entries _ _ c.requires c.as_slice.result.now _ c.as_slice-entries.result.now c.as_slice-entries.ensures c.in_ok-results.ensures.told in
    machines_named c.as_slice-entries.result.now c.deref.result.now c.deref-2.result.now told.many
    (c.deref.ensures.value ∙ c.in_ok-names.ensures) (c.deref-2.ensures.value ∙ c.in_ok-first.ensures) told.small

pub drill_report-requires-clause-sum : goal.drill_report-requires-clause-sum
drill_report-requires-clause-sum g c =
    let told = told_entries _ _ c.requires c.as_slice.result.now _ c.as_slice-entries.result.now c.as_slice-entries.ensures c.in_ok-results.ensures.told in
    let fits : FitsSigned w128 c.sum_of_totals-sum.result = search rules in
    let total : IsTotal c.sum_of_totals-sum.result = sum_is_total c.as_slice-entries.result.now _ (omega (arith, told.many)) told.small c.sum_of_totals-sum.ensures in
    subst IsTotal (sym (to_z-of_z w128 c.sum_of_totals-sum.result fits)) total

pub returns-clause-right : goal.returns-clause-right
returns-clause-right g c =
    let told = told_entries _ _ c.requires c.as_slice.result.now _ c.as_slice-entries.result.now c.as_slice-entries.ensures c.in_ok-results.ensures.told in
    let fits : FitsSigned w128 c.sum_of_totals-sum.result = search rules in
    right_drill_if _ c.args.number c.as_slice.result.now c.as_slice-entries.result.now c.deref.result.now c.deref-2.result.now c.sum_of_totals-sum.result _ c.drill_report.result
    (c.as_slice.ensures.value ∙ c.in_ok-sheets.ensures.sheets) (c.deref.ensures.value ∙ c.in_ok-names.ensures) (c.deref-2.ensures.value ∙ c.in_ok-first.ensures)
    told c.sum_of_totals-sum.ensures
    (to_z-of_z w128 c.sum_of_totals-sum.result fits) c.drill_report.ensures.report c.drill_report.ensures.valid c.drill_report.ensures.shows

pub returns-clause-asked : goal.returns-clause-asked
returns-clause-asked g c = asked_if _ _ c.args.number c.as_slice.result.now c.drill_report.result (c.as_slice.ensures.value ∙ c.in_ok-sheets.ensures.sheets) c.in_ok-results.ensures.asked

pub returns-in_err-sheets-clause-most : goal.returns-in_err-sheets-clause-most
returns-in_err-sheets-clause-most g c = nobody _ _

pub returns-in_err-results-clause-most : goal.returns-in_err-results-clause-most
returns-in_err-results-clause-most g c = may_drill _ _ c.args.number c.as_slice.result.now (c.as_slice.ensures.value ∙ c.in_ok-sheets.ensures.sheets) c.in_err-results.ensures.most

pub returns-in_err-first-clause-most : goal.returns-in_err-first-clause-most
returns-in_err-first-clause-most g c = may_drill _ _ c.args.number c.as_slice.result.now (c.as_slice.ensures.value ∙ c.in_ok-sheets.ensures.sheets) c.in_ok-results.ensures.most

pub returns-in_err-names-clause-most : goal.returns-in_err-names-clause-most
returns-in_err-names-clause-most g c = may_drill _ _ c.args.number c.as_slice.result.now (c.as_slice.ensures.value ∙ c.in_ok-sheets.ensures.sheets) c.in_ok-results.ensures.most

pub returns-clause-most : goal.returns-clause-most
returns-clause-most g c = may_drill _ _ c.args.number c.as_slice.result.now (c.as_slice.ensures.value ∙ c.in_ok-sheets.ensures.sheets) c.in_ok-results.ensures.most
