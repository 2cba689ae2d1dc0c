use Rattle.axlab_core.proofs.Loading.{all_ready, all_noted}
use Rattle.axlab_core.proofs.Asking.{asked_first, asked_lab, asked_lab_only, asked_some}
use Rattle.axlab_core.proofs.load.load_lab.Goals as goal

pub returns-clause-ready : goal.returns-clause-ready
returns-clause-ready g c = all_ready _ _ _ c.in_ok-attach_files.ensures.attaches

pub returns-clause-noted : goal.returns-clause-noted
returns-clause-noted g c = all_noted c.labs_are_noted.ensures _ _ _ _ _ _ c.in_ok-lab.ensures.reads c.in_ok-attach_files.ensures.attaches

pub returns-in_err-lab-clause-asked : goal.returns-in_err-lab-clause-asked
returns-in_err-lab-clause-asked g c = asked_first _ _ _ _ _ c.in_err-lab.ensures.asked

pub returns-in_err-attach_files-clause-asked : goal.returns-in_err-attach_files-clause-asked
returns-in_err-attach_files-clause-asked g c = asked_some _ _ _ _ _ _ _ c.in_ok-lab.ensures.asked c.in_ok-lab.ensures.reads c.in_err-attach_files.ensures.asked

pub returns-clause-asked : goal.returns-clause-asked
returns-clause-asked g c = asked_lab_only _ _ _ _ _ (asked_lab _ _ _ _ _ _ _ c.in_ok-lab.ensures.asked c.in_ok-lab.ensures.reads c.in_ok-attach_files.ensures.all_asked)

pub returns-clause-all_asked : goal.returns-clause-all_asked
returns-clause-all_asked g c = asked_lab _ _ _ _ _ _ _ c.in_ok-lab.ensures.asked c.in_ok-lab.ensures.reads c.in_ok-attach_files.ensures.all_asked
