use Rattle.std.proofs.Common.{refl, sym}
use Rattle.axlab_core.specs.declared.words.Form.TheVariants.{Drill}
use Rattle.axlab_core.specs.Input.{OfWords}
use Rattle.axlab_core.proofs.Ending.{delivers_as, ends_faulty, ends_unbuilt, reads_none, reads_words}
use Rattle.axlab_core.proofs.run.run.Goals as goal

pub returns-in-Faulty-clause-ends : goal.returns-in-Faulty-clause-ends
returns-in-Faulty-clause-ends g c = ends_faulty _ _ (sym c.in-Faulty.ensures) refl refl refl

pub returns-in-Unbuilt-clause-ends : goal.returns-in-Unbuilt-clause-ends
returns-in-Unbuilt-clause-ends g c = ends_unbuilt _ _ (sym c.in-Unbuilt.ensures) refl refl refl

pub returns-in-Drill-clause-ends : goal.returns-in-Drill-clause-ends
returns-in-Drill-clause-ends g c =
    delivers_as _ _ OfWords c.serve_drill-served.result c.deliver.result (Drill c.in-Drill.number) (sym c.in-Drill.ensures)
    (reads_words _ c.in-Drill.number (sym c.in-Drill.ensures)) c.serve_drill-served.ensures.served c.deliver.ensures (reads_none _ _ _ _ _ _ refl)
