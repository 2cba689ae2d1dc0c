-- How a call ends, step by step.
use Rattle.std.proofs.Common.{◌≡◌, ℕ, List, [], Option, Result, Ok, Err, refl, ◌∙◌, ap, inl, inr, subst}
use Rattle.std.specs.Result.{ForOk}
use Rattle.player_core.specs.State.{BenchState, lasting_of}
use Rattle.player_core.specs.Counts.{turns_of}
use Rattle.player_core.specs.declared.bench.PlugNote.{PlugNote}
use Rattle.player_core.specs.Bench.{NoResumesFell, SameTurns, notes_of}
use Rattle.lab_ports.specs.Causes.{Rose}
use Rattle.lab_ports.specs.Holding.{Holding, Grew, GrewByPart}
use Rattle.refusals.specs.declared.refusal.Refusal.TheVariants.{NotBuilt}
use Rattle.lab_file.specs.declared.command.Command.{Command}
use Rattle.lab_file.specs.declared.command.Command.TheVariants as commands
use Rattle.axlab_core.specs.declared.load.LoadError.{LoadError}
use Rattle.axlab_core.specs.declared.load.LoadError.TheVariants as errors
use Rattle.axlab_core.specs.declared.output.Output.{Output}
use Rattle.axlab_core.specs.declared.output.Hindrance.{Hindrance}
use Rattle.axlab_core.specs.declared.output.Hindrance.TheVariants as hindrances
use Rattle.axlab_core.specs.declared.status.Status.{Status}
use Rattle.axlab_core.specs.declared.status.Status.TheVariants.{Answered, Denied, Usage, ReadFault, Refused, WriteFault, NoMemory}
use Rattle.axlab_core.specs.declared.words.Form.{Form}
use Rattle.axlab_core.specs.declared.words.Form.TheVariants.{Lab, Drill, Unbuilt, Faulty}
use Rattle.axlab_core.specs.Input.{Input, Names, OfLab, OfWords, Call, Comes, Finds, call_of, found_by, players, tested}
use Rattle.axlab_core.specs.Loading.{Stop, Missing, Refuses, Denies, ◌>>=◌, IsTold}
use Rattle.axlab_core.specs.Files.{AskedInOrder, ReadsInOrder}
use Rattle.play_commands.specs.MayAsk.{UpTo}
use Rattle.axlab_core.specs.Bounded.{IsBounded, MayAsk}
use Rattle.play_commands.specs.RightMatch.{IsAskedMatch}
use Rattle.play_commands.specs.RightTournament.{IsAskedTournament}
use Rattle.lab_file.specs.Lab.{LabData}
use Rattle.axlab_core.specs.Outcome.{Ends, EndsBy, IsUnread, IsUntouched, IsUnwritten, IsWork, Wrote}
use Rattle.axlab_core.specs.Output.{Delivers, GrewByFront, IsSendable, output_text}
use Rattle.axlab_core.specs.Right.{IsServed, Serves, ServesWell}
use Rattle.axlab_core.specs.Steps.{Explains, LoadsInput, load_status}
use Rattle.axlab_core.specs.World.{World}
use Rattle.axlab_core.proofs.Fronts.{front_none}

-- ---- what is read

-- what the words and files of a call give goes on to its tests
tests_of : (call : Call) (input : Input) → Finds call input → (answer : Result Input Stop) → tested call.form (players call) input ≡ answer → Comes call answer
tests_of call input found answer passed = record {
  given = found.given;
  is = ap (λ r. r >>= λ i. tested call.form (players call) i) found.is ∙ passed;
}

-- the reads of the call gave this input
pub record Reads (call : Call) (input : Input) : Type 0 where
  pub work : IsWork call.form
  pub found : Finds call input

pub reads_words : (call : Call) (number : ℕ) → call.form ≡ Drill number → Reads call OfWords
reads_words call number is = record {
  work = rw is tt;
  found = record { given = record { lab = []; machines = []; second = [] }; is = rw is refl };
}

pub reads_lab_input : (call : Call) (command : Command) (notes : List PlugNote) (input : Input) → call.form ≡ Lab command → notes ≡ notes_of (players call)
    → LoadsInput command notes call.names call.before.holding (Ok input) → Reads call input
reads_lab_input call command notes input is noted loads = record {
  work = rw is tt;
  found = record { given = loads.given; is = rw is (rw noted at loads.is) };
}

-- what stops the reads of a command stops the call
comes_lab : (call : Call) (command : Command) (notes : List PlugNote) (stop : Stop) → call.form ≡ Lab command → notes ≡ notes_of (players call)
    → LoadsInput command notes call.names call.before.holding (Err stop) → Comes call (Err stop)
comes_lab call command notes stop is noted loads =
    let found : found_by call loads.given ≡ Err stop = rw is (rw noted at loads.is) in
    record { given = loads.given; is = ap (λ r. r >>= λ i. tested call.form (players call) i) found }

pub reads_none : (form : Form) (names : Names) (notes : List PlugNote) (holding : Option Holding) (before now : List (List ℕ)) → now ≡ before
    → AskedInOrder form names notes holding before now
reads_none form names notes holding before now same = record { given = []; front = front_none _ _ _ same }

pub reads_of_lab : (form : Form) (command : Command) (names : Names) (notes plugs : List PlugNote) (holding : Option Holding) (before now : List (List ℕ))
    → form ≡ Lab command → notes ≡ plugs → AskedInOrder (Lab command) names notes holding before now → AskedInOrder form names plugs holding before now
reads_of_lab form command names notes plugs holding before now is noted asked = rw is (rw noted at asked)

-- ---- how often players are asked

served_within : (form : Form) (before after : BenchState) (input : Input) (text : List ℕ) → IsServed form before after input text → MayAsk form before after input
served_within (Lab commands.Match) before after (OfLab lab second) text served = record {
  job = served.1.job;
  job_is = served.1.job_is;
  most = record {
    left = served.1.asked.left;
    right = served.1.asked.right;
    left_is = served.1.asked.left_is;
    right_is = served.1.asked.right_is;
    most = served.1.asked.asked.most;
  };
}
served_within (Lab commands.Tournament) before after (OfLab lab second) text served = record {
  job = served.1.job;
  job_is = served.1.job_is;
  entrants = served.1.entrants;
  entrants_are = served.1.entrants_are;
  most = served.1.asked.most;
}
served_within (Drill number) before after OfWords text served = served.1.most
served_within _ before after _ text served = absurd served

bounded_wrote : (call : Call) (after : World) (Took : Option (List ℕ) → Option (List ℕ) → List ℕ → Type 0) → Wrote call after Took → IsBounded call after
bounded_wrote call after Took w =
    inr (record { input = w.input; found = w.found; most = served_within call.form call.before.bench after.bench w.input w.text w.served })

bounded_by : (call : Call) (after : World) (status : Status) → EndsBy call after status → IsBounded call after
bounded_by call after Answered e = bounded_wrote call after Grew e
bounded_by call after (Denied line) e = e.1.bounded
bounded_by call after Usage e = inl e.1.turns
bounded_by call after ReadFault e = inl e.1.turns
bounded_by call after (Refused refusal) e = inl e.1.turns
bounded_by call after WriteFault e = bounded_wrote call after GrewByPart e.0
bounded_by call after NoMemory (work, inl none) = none.bounded
bounded_by call after NoMemory (work, inr front) = bounded_wrote call after GrewByFront front

pub bounded : (call : Call) (after : World) (status : Status) → Ends call after status → IsBounded call after
bounded call after status e = bounded_by call after status e.by

-- ---- what is served and sent

-- a text that is a right one, so far as the output took it
wrote : (call : Call) (after : World) (input : Input) (output : Output) (Took : Option (List ℕ) → Option (List ℕ) → List ℕ → Type 0)
    → Reads call input → ServesWell call.form call.before.bench after.bench input output → Took call.before.taken after.taken (output_text output)
    → Wrote call after Took
wrote call after input output Took reads serves took = record {
  input = input;
  found = reads.found;
  comes = tests_of call input reads.found (Ok input) serves.passed;
  text = output_text output;
  served = serves.served;
  took = took;
}

-- nothing was written
unwritten : (call : Call) (after : World) (input : Input) → Reads call input → UpTo call.before.bench after.bench (MayAsk call.form call.before.bench after.bench input)
    → after.taken ≡ call.before.taken → IsUnwritten call after
unwritten call after input reads (inl same) taken = record { taken = taken; bounded = inl same }
unwritten call after input reads (inr may) taken = record { taken = taken; bounded = inr (record { input = input; found = reads.found; most = may }) }

-- the work is done, and what it gave is sent
delivers : (call : Call) (after : World) (input : Input) (served : Result Output Hindrance) (status : Status)
    → Reads call input → Serves call.form call.before.bench after.bench input served
    → Delivers served call.before.taken after.taken (Rose call.before.write_faults after.write_faults) status → EndsBy call after status
delivers call after input (Ok output) Answered reads serves sent = wrote call after input output Grew reads serves sent
delivers call after input (Ok output) WriteFault reads serves sent = (wrote call after input output GrewByPart reads serves sent.0, sent.1)
delivers call after input (Ok output) NoMemory reads serves sent = (reads.work, inr (wrote call after input output GrewByFront reads serves sent))
delivers call after input (Ok output) (Denied line) reads serves sent = absurd sent
delivers call after input (Ok output) Usage reads serves sent = absurd sent
delivers call after input (Ok output) ReadFault reads serves sent = absurd sent
delivers call after input (Ok output) (Refused refusal) reads serves sent = absurd sent
delivers call after input (Err (hindrances.Denied line)) status reads serves sent =
    rw sent.0 (tests_of call input reads.found (Err (Denies line)) serves.0, unwritten call after input reads serves.1 sent.1)
delivers call after input (Err hindrances.NoMemory) status reads serves sent = rw sent.0 (reads.work, inl (unwritten call after input reads serves sent.1))

pub delivers_as : (call : Call) (after : World) (input : Input) (served : Result Output Hindrance) (status : Status) (form : Form) → call.form ≡ form
    → Reads call input → Serves form call.before.bench after.bench input served
    → Delivers served call.before.taken after.taken (Rose call.before.write_faults after.write_faults) status → ReadsInOrder call after → Ends call after status
delivers_as call after input served status form is reads serves sent asked =
    let serves_call : Serves call.form call.before.bench after.bench input served = rw is serves in
    record { by = delivers call after input served status reads serves_call sent; reads = asked }

-- what is served can be sent
pub sendable : (form : Form) (before after : BenchState) (input : Input) (served : Result Output Hindrance)
    → Serves form before after input served → ForOk served IsSendable
sendable form before after input (Ok output) serves x is = let same : output ≡ x = cc in subst IsSendable same serves.sendable
sendable form before after input (Err hindrance) serves x is = absurd (cc)

-- ---- calls that stop before their work

untouched : (call : Call) (after : World) → after.bench ≡ call.before.bench → after.taken ≡ call.before.taken → IsUntouched call after
untouched call after bench taken = record {
  taken = taken;
  turns = record { left = ap (λ (b : BenchState). turns_of b.left) bench; right = ap (λ (b : BenchState). turns_of b.right) bench };
}

pub ends_faulty : (call : Call) (after : World) → call.form ≡ Faulty → after.bench ≡ call.before.bench → after.taken ≡ call.before.taken → after.asked ≡ call.before.asked
    → Ends call after Usage
ends_faulty call after is bench taken asked = record { by = (is, untouched call after bench taken); reads = reads_none _ _ _ _ _ _ asked }

pub ends_unbuilt : (call : Call) (after : World) → call.form ≡ Unbuilt → after.bench ≡ call.before.bench → after.taken ≡ call.before.taken
    → after.asked ≡ call.before.asked → Ends call after (Refused NotBuilt)
ends_unbuilt call after is bench taken asked = record {
  by = (record { given = record { lab = []; machines = []; second = [] }; is = rw is refl }, untouched call after bench taken);
  reads = reads_none _ _ _ _ _ _ asked;
}

-- no memory for the notes of the plugs
pub ends_unnoted : (call : Call) (after : World) (command : Command) → call.form ≡ Lab command → SameTurns call.before.bench after.bench
    → after.taken ≡ call.before.taken → after.asked ≡ call.before.asked → Ends call after NoMemory
ends_unnoted call after command is turns taken asked = record {
  by = (rw is tt, inl (record { taken = taken; bounded = inl turns }));
  reads = reads_none _ _ _ _ _ _ asked;
}

-- the files couldn't be loaded
ends_by_load : (call : Call) (after : World) (command : Command) (notes : List PlugNote) (error : LoadError) → call.form ≡ Lab command → notes ≡ notes_of (players call)
    → Explains error (Rose call.before.read_faults after.read_faults) (IsTold call.before.holding) (λ stop. LoadsInput command notes call.names call.before.holding (Err stop))
    → IsUntouched call after → EndsBy call after (load_status error)
ends_by_load call after command notes errors.Unread is noted (inl rose) none = ((rw is refl, inl rose), none)
ends_by_load call after command notes errors.Unread is noted (inr missing) none = ((rw is refl, inr (missing.0, comes_lab call command notes Missing is noted missing.1)), none)
ends_by_load call after command notes (errors.Refused refusal) is noted why none = (comes_lab call command notes (Refuses refusal) is noted why, none)
ends_by_load call after command notes errors.NoMemory is noted why none = (rw is tt, inl (record { taken = none.taken; bounded = inl none.turns }))

pub ends_unloaded : (call : Call) (after : World) (command : Command) (notes : List PlugNote) (error : LoadError) → call.form ≡ Lab command → notes ≡ notes_of (players call)
    → Explains error (Rose call.before.read_faults after.read_faults) (IsTold call.before.holding) (λ stop. LoadsInput command notes call.names call.before.holding (Err stop))
    → after.bench ≡ call.before.bench → after.taken ≡ call.before.taken → ReadsInOrder call after → Ends call after (load_status error)
ends_unloaded call after command notes error is noted why bench taken asked =
    record { by = ends_by_load call after command notes error is noted why (untouched call after bench taken); reads = asked }

-- ---- a call that goes on in a later world

-- of the bench what lasts and the advances are as before, no count of resumes fell, and all else is as before
pub record GoesOn (start later : World) : Type 0 where
  pub players : lasting_of later.bench.left ≡ lasting_of start.bench.left
  pub turns : SameTurns start.bench later.bench
  pub returns : NoResumesFell start.bench later.bench
  pub holding : later.holding ≡ start.holding
  pub asked : later.asked ≡ start.asked
  pub read_faults : later.read_faults ≡ start.read_faults
  pub taken : later.taken ≡ start.taken
  pub write_faults : later.write_faults ≡ start.write_faults

asked_match_earlier : (start later after : BenchState) (lab : LabData) → lasting_of later.left ≡ lasting_of start.left → SameTurns start later
    → IsAskedMatch later after lab → IsAskedMatch start after lab
asked_match_earlier start later after lab same turns asked = record {
  job = asked.job;
  job_is = asked.job_is;
  asked = record {
    left = asked.asked.left;
    right = asked.asked.right;
    left_is = asked.asked.left_is;
    right_is = asked.asked.right_is;
    asked = rw (same, turns.left, turns.right) at asked.asked.asked;
  };
}

asked_tournament_earlier : (start later after : BenchState) (lab : LabData) → lasting_of later.left ≡ lasting_of start.left → SameTurns start later
    → IsAskedTournament later after lab → IsAskedTournament start after lab
asked_tournament_earlier start later after lab same turns asked = record {
  job = asked.job;
  job_is = asked.job_is;
  entrants = asked.entrants;
  entrants_are = asked.entrants_are;
  asked = rw (same, turns.left, turns.right) at asked.asked;
}

served_earlier : (form : Form) (start later after : BenchState) (input : Input) (text : List ℕ) → lasting_of later.left ≡ lasting_of start.left
    → SameTurns start later → NoResumesFell start later → IsServed form later after input text → IsServed form start after input text
served_earlier (Lab commands.Match) start later after (OfLab lab second) text same turns returns served =
    (rw same at served.0, asked_match_earlier start later after lab same turns served.1)
served_earlier (Lab commands.Tournament) start later after (OfLab lab second) text same turns returns served =
    (rw same at served.0, asked_tournament_earlier start later after lab same turns served.1)
served_earlier (Drill number) start later after OfWords text same turns returns served =
    (rw same at served.0, rw (same, turns.left, turns.right) at served.1)
served_earlier _ start later after _ text same turns returns served = absurd served

may_earlier : (form : Form) (start later after : BenchState) (input : Input) → lasting_of later.left ≡ lasting_of start.left
    → SameTurns start later → MayAsk form later after input → MayAsk form start after input
may_earlier (Lab commands.Match) start later after (OfLab lab second) same turns may = record {
  job = may.job;
  job_is = may.job_is;
  most = record {
    left = may.most.left;
    right = may.most.right;
    left_is = may.most.left_is;
    right_is = may.most.right_is;
    most = rw (same, turns.left, turns.right) at may.most.most;
  };
}
may_earlier (Lab commands.Tournament) start later after (OfLab lab second) same turns may = record {
  job = may.job;
  job_is = may.job_is;
  entrants = may.entrants;
  entrants_are = may.entrants_are;
  most = rw (same, turns.left, turns.right) at may.most;
}
may_earlier (Drill number) start later after OfWords same turns may = rw (same, turns.left, turns.right) at may
may_earlier _ start later after _ same turns may = absurd may

turns_earlier : (start later after : BenchState) → SameTurns start later → SameTurns later after → SameTurns start after
turns_earlier start later after first second = record { left = second.left ∙ first.left; right = second.right ∙ first.right }

module _ (words : List (List ℕ)) (start later after : World) (on : GoesOn start later) where
  finds_earlier : (input : Input) → Finds (call_of words later) input → Finds (call_of words start) input
  finds_earlier input found = record { given = found.given; is = rw (on.players, on.holding) at found.is }

  comes_earlier : (answer : Result Input Stop) → Comes (call_of words later) answer → Comes (call_of words start) answer
  comes_earlier answer comes = record { given = comes.given; is = rw (on.players, on.holding) at comes.is }

  wrote_earlier : (Took : Option (List ℕ) → Option (List ℕ) → List ℕ → Type 0) → Wrote (call_of words later) after Took → Wrote (call_of words start) after Took
  wrote_earlier Took w = record {
    input = w.input;
    found = finds_earlier w.input w.found;
    comes = comes_earlier (Ok w.input) w.comes;
    text = w.text;
    served = served_earlier (call_of words start).form start.bench later.bench after.bench w.input w.text on.players on.turns on.returns w.served;
    took = rw on.taken at w.took;
  }

  bounded_earlier : IsBounded (call_of words later) after → IsBounded (call_of words start) after
  bounded_earlier (inl same) = inl (turns_earlier start.bench later.bench after.bench on.turns same)
  bounded_earlier (inr asked) = inr (record {
    input = asked.input;
    found = finds_earlier asked.input asked.found;
    most = may_earlier (call_of words start).form start.bench later.bench after.bench asked.input on.players on.turns asked.most;
  })

  untouched_earlier : IsUntouched (call_of words later) after → IsUntouched (call_of words start) after
  untouched_earlier none = record { taken = none.taken ∙ on.taken; turns = turns_earlier start.bench later.bench after.bench on.turns none.turns }

  unwritten_earlier : IsUnwritten (call_of words later) after → IsUnwritten (call_of words start) after
  unwritten_earlier none = record { taken = none.taken ∙ on.taken; bounded = bounded_earlier none.bounded }

  unread_earlier : IsUnread (call_of words later) after → IsUnread (call_of words start) after
  unread_earlier (needs, inl rose) = (needs, inl (rw on.read_faults at rose))
  unread_earlier (needs, inr missing) = (needs, inr (rw on.holding at missing.0, comes_earlier (Err Missing) missing.1))

  by_earlier : (status : Status) → EndsBy (call_of words later) after status → EndsBy (call_of words start) after status
  by_earlier Answered e = wrote_earlier Grew e
  by_earlier (Denied line) e = (comes_earlier (Err (Denies line)) e.0, unwritten_earlier e.1)
  by_earlier Usage e = (e.0, untouched_earlier e.1)
  by_earlier ReadFault e = (unread_earlier e.0, untouched_earlier e.1)
  by_earlier (Refused refusal) e = (comes_earlier (Err (Refuses refusal)) e.0, untouched_earlier e.1)
  by_earlier WriteFault e = (wrote_earlier GrewByPart e.0, rw on.write_faults at e.1)
  by_earlier NoMemory (work, inl none) = (work, inl (unwritten_earlier none))
  by_earlier NoMemory (work, inr front) = (work, inr (wrote_earlier GrewByFront front))

  reads_earlier : ReadsInOrder (call_of words later) after → ReadsInOrder (call_of words start) after
  reads_earlier reads = rw (on.players, on.holding, on.asked) at reads

  pub ends_earlier : (status : Status) → Ends (call_of words later) after status → Ends (call_of words start) after status
  ends_earlier status e = record { by = by_earlier status e.by; reads = reads_earlier e.reads }
