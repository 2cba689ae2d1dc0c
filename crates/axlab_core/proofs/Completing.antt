-- What the end of a call says, clause by clause.
use Rattle.std.proofs.Common.{◌≡◌, ℕ, true, [], Some, Result, Ok, Err, refl, sym, ◌∙◌, ap, inl, inr}
use Rattle.std.specs.Prelude.{◌↔◌}
use Rattle.lab_ports.specs.Causes.{Rose}
use Rattle.lab_ports.specs.Holding.{Grew, GrewByPart}
use Rattle.refusals.specs.declared.refusal.Refusal.TheVariants.{NotBuilt}
use Rattle.axlab_core.specs.declared.status.Status.{Status}
use Rattle.axlab_core.specs.declared.status.Status.TheVariants.{Answered, Denied, Usage, ReadFault, Refused, WriteFault, NoMemory}
use Rattle.axlab_core.specs.declared.words.Form.TheVariants.{Drill, Unbuilt, Faulty}
use Rattle.axlab_core.specs.Complete.{Holds, MustAnswer, MustDrill, MustMiss, MustStop}
use Rattle.axlab_core.specs.Input.{Call, Comes, Input, OfWords, Given, input_by, input_for, players, sources}
use Rattle.axlab_core.specs.Loading.{Stop, Unlisted, Missing, Refuses, Denies}
use Rattle.axlab_core.specs.Outcome.{Ends, EndsBy, IsUnread, IsWork, LeftOff, OnAnswered, OnWriteFault, OnReadFault, OnNoMemory, IfRefused, IfDenied, OnUnwritten, Wrote, status_of}
use Rattle.axlab_core.specs.Words.{needs_lab}
use Rattle.axlab_core.specs.World.{World}

-- each status by its clause
pub on_answered : (call : Call) (after : World) (status : Status) → Ends call after status → OnAnswered status (Wrote call after Grew)
on_answered call after Answered e = e.by
on_answered call after (Denied line) e = tt
on_answered call after Usage e = tt
on_answered call after ReadFault e = tt
on_answered call after (Refused refusal) e = tt
on_answered call after WriteFault e = tt
on_answered call after NoMemory e = tt

pub on_read_fault : (call : Call) (after : World) (status : Status) → Ends call after status → OnReadFault status (IsUnread call after)
on_read_fault call after Answered e = tt
on_read_fault call after (Denied line) e = tt
on_read_fault call after Usage e = tt
on_read_fault call after ReadFault e = e.by.0
on_read_fault call after (Refused refusal) e = tt
on_read_fault call after WriteFault e = tt
on_read_fault call after NoMemory e = tt

pub if_refused : (call : Call) (after : World) (status : Status) → Ends call after status → IfRefused status (λ refusal. Comes call (Err (Refuses refusal)))
if_refused call after Answered e = tt
if_refused call after (Denied line) e = tt
if_refused call after Usage e = tt
if_refused call after ReadFault e = tt
if_refused call after (Refused refusal) e = e.by.0
if_refused call after WriteFault e = tt
if_refused call after NoMemory e = tt

pub if_denied : (call : Call) (after : World) (status : Status) → Ends call after status → IfDenied status (λ line. Comes call (Err (Denies line)))
if_denied call after Answered e = tt
if_denied call after (Denied line) e = e.by.0
if_denied call after Usage e = tt
if_denied call after ReadFault e = tt
if_denied call after (Refused refusal) e = tt
if_denied call after WriteFault e = tt
if_denied call after NoMemory e = tt

pub on_write_fault : (call : Call) (after : World) (status : Status) → Ends call after status → OnWriteFault status (Rose call.before.write_faults after.write_faults)
on_write_fault call after Answered e = tt
on_write_fault call after (Denied line) e = tt
on_write_fault call after Usage e = tt
on_write_fault call after ReadFault e = tt
on_write_fault call after (Refused refusal) e = tt
on_write_fault call after WriteFault e = e.by.1
on_write_fault call after NoMemory e = tt

pub on_part : (call : Call) (after : World) (status : Status) → Ends call after status → OnWriteFault status (Wrote call after GrewByPart)
on_part call after Answered e = tt
on_part call after (Denied line) e = tt
on_part call after Usage e = tt
on_part call after ReadFault e = tt
on_part call after (Refused refusal) e = tt
on_part call after WriteFault e = e.by.0
on_part call after NoMemory e = tt

pub on_no_memory : (call : Call) (after : World) (status : Status) → Ends call after status → OnNoMemory status (LeftOff call after)
on_no_memory call after Answered e = tt
on_no_memory call after (Denied line) e = tt
on_no_memory call after Usage e = tt
on_no_memory call after ReadFault e = tt
on_no_memory call after (Refused refusal) e = tt
on_no_memory call after WriteFault e = tt
on_no_memory call after NoMemory e = e.by

pub on_unwritten : (call : Call) (after : World) (status : Status) → Ends call after status → OnUnwritten status (after.taken ≡ call.before.taken)
on_unwritten call after Answered e = tt
on_unwritten call after (Denied line) e = e.by.1.taken
on_unwritten call after Usage e = e.by.1.taken
on_unwritten call after ReadFault e = e.by.1.taken
on_unwritten call after (Refused refusal) e = e.by.1.taken
on_unwritten call after WriteFault e = tt
on_unwritten call after NoMemory e = tt

-- a call comes to this answer, whatever the reads give
abbrev pub Settles : Call → Result Input Stop → Type 0
Settles call answer = (given : Given) → input_by call given ≡ answer

settled : (call : Call) (answer other : Result Input Stop) → Settles call answer → Comes call other → other ≡ answer
settled call answer other settles comes = sym comes.is ∙ settles comes.given

-- what is held settles a call
pub holds_settles : (call : Call) (answer : Result Input Stop) → Holds call answer → Settles call answer
holds_settles call answer h given =
    let is : input_for call.form (players call) (sources call.names (Some h.files) (record { lab = []; machines = []; second = [] })) ≡ answer = rw h.told at h.is in
    rw h.told is

-- the ways of a call that stops so: by this status, by a failed read, or for want of memory where there is work
pub data StopsBy (call : Call) (after : World) (stop : Stop) (status : Status) : Type 0 where
  so : status ≡ status_of stop → StopsBy call after stop status
  failed : status ≡ ReadFault → needs_lab call.form ≡ true → Rose call.before.read_faults after.read_faults → StopsBy call after stop status
  wanted : status ≡ NoMemory → IsWork call.form → StopsBy call after stop status

same_stop : (stop other : Stop) → ◌≡◌ {A = Result Input Stop} (Err other) (Err stop) → status_of other ≡ status_of stop
same_stop stop other e = let same : other ≡ stop = cc in ap (λ s. status_of s) same

no_input : {A : Type 0} (stop : Stop) (input : Input) → ◌≡◌ {A = Result Input Stop} (Ok input) (Err stop) → A
no_input stop input e = absurd (cc)

no_stop : {A : Type 0} (stop : Stop) (input : Input) → ◌≡◌ {A = Result Input Stop} (Err stop) (Ok input) → A
no_stop stop input e = absurd (cc)

pub stops : (call : Call) (after : World) (status : Status) (stop : Stop) → EndsBy call after status → Settles call (Err stop) → StopsBy call after stop status
stops call after Answered stop e s = no_input stop e.input (settled call (Err stop) (Ok e.input) s e.comes)
stops call after (Denied line) stop e s = so (same_stop stop (Denies line) (settled call (Err stop) (Err (Denies line)) s e.0))
stops call after Usage stop e s = so (same_stop stop Unlisted (settled call (Err stop) (Err Unlisted) s (record { given = record { lab = []; machines = []; second = [] }; is = rw e.0 refl })))
stops call after ReadFault stop ((needs, inl rose), none) s = failed refl needs rose
stops call after ReadFault stop ((needs, inr missing), none) s = so (same_stop stop Missing (settled call (Err stop) (Err Missing) s missing.1))
stops call after (Refused refusal) stop e s = so (same_stop stop (Refuses refusal) (settled call (Err stop) (Err (Refuses refusal)) s e.0))
stops call after WriteFault stop e s = no_input stop e.0.input (settled call (Err stop) (Ok e.0.input) s e.0.comes)
stops call after NoMemory stop e s = wanted refl e.0

-- the ways of a call that nothing stops
pub data PassesBy (call : Call) (after : World) (status : Status) : Type 0 where
  answered : status ≡ Answered → PassesBy call after status
  unread : status ≡ ReadFault → needs_lab call.form ≡ true → Rose call.before.read_faults after.read_faults → PassesBy call after status
  unwritten : status ≡ WriteFault → Rose call.before.write_faults after.write_faults → PassesBy call after status
  left : status ≡ NoMemory → PassesBy call after status

pub passes : (call : Call) (after : World) (status : Status) (input : Input) → EndsBy call after status → Settles call (Ok input) → PassesBy call after status
passes call after Answered input e s = answered refl
passes call after (Denied line) input e s = no_stop (Denies line) input (settled call (Ok input) (Err (Denies line)) s e.0)
passes call after Usage input e s = no_stop Unlisted input (settled call (Ok input) (Err Unlisted) s (record { given = record { lab = []; machines = []; second = [] }; is = rw e.0 refl }))
passes call after ReadFault input ((needs, inl rose), none) s = unread refl needs rose
passes call after ReadFault input ((needs, inr missing), none) s = no_stop Missing input (settled call (Ok input) (Err Missing) s missing.1)
passes call after (Refused refusal) input e s = no_stop (Refuses refusal) input (settled call (Ok input) (Err (Refuses refusal)) s e.0)
passes call after WriteFault input e s = unwritten refl e.1
passes call after NoMemory input e s = left refl

-- ---- the clauses

pub completes : (call : Call) (after : World) (status : Status) → Ends call after status → MustAnswer call after status
completes call after status e held calm calm_out = elim (passes call after status held.0 e.by (holds_settles call (Ok held.0) held.1)) [
  | answered is ↦ inl is
  | unread is needs rose ↦ absurd (calm rose)
  | unwritten is rose ↦ absurd (calm_out rose)
  | left is ↦ inr is
]

pub stops_so : (call : Call) (after : World) (status : Status) → Ends call after status → MustStop call after status
stops_so call after status e stop held calm = elim (stops call after status stop e.by (holds_settles call (Err stop) held)) [
  | so is ↦ inl is
  | failed is needs rose ↦ absurd (calm rose)
  | wanted is work ↦ inr is
]

pub misses : (call : Call) (after : World) (status : Status) → Ends call after status → MustMiss call status
misses call after status e held = elim (stops call after status Missing e.by (holds_settles call (Err Missing) held)) [
  | so is ↦ inl is
  | failed is needs rose ↦ inl is
  | wanted is work ↦ inr is
]

pub drills : (call : Call) (after : World) (status : Status) → Ends call after status → MustDrill call after status
drills call after status e number is_drill calm_out = elim (passes call after status OfWords e.by (λ given. rw is_drill refl)) [
  | answered is ↦ inl is
  | unread is needs rose ↦ absurd (no_files number (rw is_drill at needs))
  | unwritten is rose ↦ absurd (calm_out rose)
  | left is ↦ inr is
] where
  no_files : (number : ℕ) → needs_lab (Drill number) ≡ true → ⊥
  no_files number e = absurd cc

pub usage : (call : Call) (after : World) (status : Status) → Ends call after status → call.form ≡ Faulty → status ≡ Usage
usage call after status e faulty = elim (stops call after status Unlisted e.by (λ given. rw faulty refl)) [
  | so is ↦ is
  | failed is needs rose ↦ absurd (no_files (rw faulty at needs))
  | wanted is work ↦ absurd (rw faulty at work)
] where
  no_files : needs_lab Faulty ≡ true → ⊥
  no_files e = absurd cc

is_faulty : (call : Call) (after : World) (status : Status) → status ≡ Usage → Ends call after status → call.form ≡ Faulty
is_faulty call after status is e = let usage_ends : Ends call after Usage = rw is at e in usage_ends.by.0

pub usage_exactly : (call : Call) (after : World) (status : Status) → Ends call after status → (status ≡ Usage) ↔ (call.form ≡ Faulty)
usage_exactly call after status e = (λ is. is_faulty call after status is e, usage call after status e)

pub unbuilt : (call : Call) (after : World) (status : Status) → Ends call after status → call.form ≡ Unbuilt → status ≡ Refused NotBuilt
unbuilt call after status e is_unbuilt = elim (stops call after status (Refuses NotBuilt) e.by (λ given. rw is_unbuilt refl)) [
  | so is ↦ is
  | failed is needs rose ↦ absurd (no_files (rw is_unbuilt at needs))
  | wanted is work ↦ absurd (rw is_unbuilt at work)
] where
  no_files : needs_lab Unbuilt ≡ true → ⊥
  no_files e = absurd cc
