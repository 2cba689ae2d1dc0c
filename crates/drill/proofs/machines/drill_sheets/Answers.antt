use Rattle.std.proofs.Common.{◌≡◌, List, ◌∙◌, sym, subst, arith}
use Rattle.std.specs.List.{All}
use Rattle.player_core.specs.Sheet.{SheetData, IsSheet}
use Rattle.player_core.specs.declared.kind.Kind.TheVariants.{Machine}
use Rattle.drill.proofs.Drawing.{before-first, all_machines, all_sheets, machine_added, all_added, state_moved}
use Rattle.drill.proofs.machines.drill_sheets.Goals as goal

pub loop-machine-init : goal.loop-machine-init
loop-machine-init c = record {
  drawn = sym (before-first _);
  sheets = c.new-sheets.ensures.items;
}

pub loop-machine-preserved : goal.loop-machine-preserved
loop-machine-preserved c = record {
  drawn = c.in_ok-draw_machine.ensures.moved ∙ state_moved _ _ _ c.loop-machine.invariant.drawn;
  sheets =
      machine_added _ _ _ _ _ _ c.loop-machine.invariant.drawn c.in_ok-draw_machine.ensures.sheet c.loop-machine.invariant.sheets
      c.in_ok-push.ensures.items;
}

pub returns-clause-sheets : goal.returns-clause-sheets
returns-clause-sheets c = all_added _ _ _ (omega arith) c.loop-machine.invariant.sheets

pub returns-clause-machines : goal.returns-clause-machines
returns-clause-machines c =
    let P : List SheetData → Type 0 = All (λ sheet. sheet.kind ≡ Machine) in
    subst P (sym (all_added _ _ _ (omega arith) c.loop-machine.invariant.sheets)) (all_machines c.args.number)

pub returns-clause-valid : goal.returns-clause-valid
returns-clause-valid c =
    let P : List SheetData → Type 0 = All IsSheet in
    subst P (sym (all_added _ _ _ (omega arith) c.loop-machine.invariant.sheets)) (all_sheets c.args.number)
