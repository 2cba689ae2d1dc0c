use Rattle.axlab_core.specs.Loading.{Refuses}
use Rattle.axlab_core.proofs.Completing.{completes, drills, if_denied, if_refused, misses, on_answered, on_no_memory, on_part, on_read_fault, on_unwritten, on_write_fault, stops_so, unbuilt, usage_exactly}
use Rattle.axlab_core.proofs.Ending.{bounded}
use Rattle.axlab_core.proofs.run.axlab.Goals as goal

pub returns-clause-usage : goal.returns-clause-usage
returns-clause-usage g c = usage_exactly _ _ _ c.run-status.ensures.ends

pub returns-clause-unbuilt : goal.returns-clause-unbuilt
returns-clause-unbuilt g c is = unbuilt _ _ _ c.run-status.ensures.ends is

pub returns-clause-complete : goal.returns-clause-complete
returns-clause-complete g c held calm calm_out = completes _ _ _ c.run-status.ensures.ends held calm calm_out

pub returns-clause-stops : goal.returns-clause-stops
returns-clause-stops g c stop held calm = stops_so _ _ _ c.run-status.ensures.ends stop held calm

pub returns-clause-refuses : goal.returns-clause-refuses
returns-clause-refuses g c refusal held calm = stops_so _ _ _ c.run-status.ensures.ends (Refuses refusal) held calm

pub returns-clause-drills : goal.returns-clause-drills
returns-clause-drills g c number is calm_out = drills _ _ _ c.run-status.ensures.ends number is calm_out

pub returns-clause-misses : goal.returns-clause-misses
returns-clause-misses g c held = misses _ _ _ c.run-status.ensures.ends held

pub returns-clause-answered : goal.returns-clause-answered
returns-clause-answered g c = on_answered _ _ _ c.run-status.ensures.ends

pub returns-clause-read_fault : goal.returns-clause-read_fault
returns-clause-read_fault g c = on_read_fault _ _ _ c.run-status.ensures.ends

pub returns-clause-refused : goal.returns-clause-refused
returns-clause-refused g c = if_refused _ _ _ c.run-status.ensures.ends

pub returns-clause-denied : goal.returns-clause-denied
returns-clause-denied g c = if_denied _ _ _ c.run-status.ensures.ends

pub returns-clause-write_fault : goal.returns-clause-write_fault
returns-clause-write_fault g c = on_write_fault _ _ _ c.run-status.ensures.ends

pub returns-clause-part : goal.returns-clause-part
returns-clause-part g c = on_part _ _ _ c.run-status.ensures.ends

pub returns-clause-left_off : goal.returns-clause-left_off
returns-clause-left_off g c = on_no_memory _ _ _ c.run-status.ensures.ends

pub returns-clause-untouched : goal.returns-clause-untouched
returns-clause-untouched g c = on_unwritten _ _ _ c.run-status.ensures.ends

pub returns-clause-reads : goal.returns-clause-reads
returns-clause-reads g c = c.run-status.ensures.ends.reads

pub returns-clause-bounded : goal.returns-clause-bounded
returns-clause-bounded g c = bounded _ _ _ c.run-status.ensures.ends
