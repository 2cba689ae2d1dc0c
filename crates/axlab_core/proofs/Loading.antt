-- The lab of a command, read by read.
use Rattle.std.proofs.Common.{◌≡◌, ℕ, zero, suc, ◌+◌, ◌<◌, ◌≤◌, List, [], ◌∷◌, ◌++◌, All, length, take, drop, set, get_or, Option, Some, None, Result, Ok, Err, refl, sym, ◌∙◌, ap, inl, inr, arith, add-one, drop-cons}
use Rattle.std.proofs.lemmas.List.{append_assoc, length-take-le, length-set, length-append, take_all, drop_all, take_more_set, drop-set-lt}
use Rattle.std.proofs.lemmas.List.Elements.{All-push}
use Rattle.std.proofs.Math.Seq.{get_or-append_seam}
use Rattle.player_core.specs.declared.bench.PlugNote.{PlugNote}
use Rattle.refusals.specs.declared.refusal.Refusal.{Refusal}
use Rattle.refusals.specs.declared.refusal.FileError.{FileError}
use Rattle.refusals.specs.declared.refusal.FileError.TheVariants as file
use Rattle.lab_ports.specs.Causes.{Rose}
use Rattle.lab_ports.specs.Holding.{Holding, IsFront, IsMissing}
use Rattle.refusals.specs.Refusing.{IsErrorOf}
use Rattle.strategy_file.specs.declared.draft.Draft.{Draft}
use Rattle.strategy_file.specs.declared.draft.Draft.TheVariants.{Ready, FromFile}
use Rattle.player_core.specs.Sheet.{SheetData}
use Rattle.strategy_file.specs.CsvRows.{csv_sheet}
use Rattle.strategy_file.specs.declared.draft.MachineFile.{MachineFile}
use Rattle.lab_file.specs.declared.command.Command.{Command}
use Rattle.lab_file.specs.declared.lab.Entry.{Entry}
use Rattle.lab_file.specs.Lab.{LabData, entry_at, no_entry}
use Rattle.lab_file.specs.LabOf.{lab_of}
use Rattle.lab_file.specs.Attached.{attached, draft_with, set_draft}
use Rattle.lab_file.specs.Limits.{limits_of}
use Rattle.lab_file.specs.Notes.{IsNotedDraft, AreNoted, LabsAreNoted}
use Rattle.axlab_core.specs.declared.load.LoadError.{LoadError}
use Rattle.axlab_core.specs.declared.load.LoadError.TheVariants.{Unread, Refused, NoMemory}
use Rattle.axlab_core.specs.Loading.{Stop, Missing, Refuses, ◌>>=◌, or_missing, or_stop, file_source, part_source, machine_source, lab_read, draft_read, entries_read, lab_for, lab_kept, Loads, IsTold}
use Rattle.play_commands.specs.Ready.{IsReadyDraft, IsReadyEntry}
use Rattle.axlab_core.specs.Steps.{of_file, ReadFails, Explains, ReadsLab, Attaches, AttachStops, AttachesAll, AttachAllStops, ReadsSecond, LoadsInput}
use Rattle.refusals.specs.declared.refusal.FileRole.{FileRole}
use Rattle.axlab_core.specs.declared.second.Second.{Second}
use Rattle.axlab_core.specs.declared.second.Second.TheVariants.{Alone}
use Rattle.axlab_core.specs.Input.{Names, OfLab, loaded_for, longest, second_for, second_of, second_read, second_role, sources}

-- what a read gave is what the source has
gave_part : (limit : ℕ) (holding : Option Holding) (name bytes : List ℕ) → IsFront holding name limit bytes → part_source limit holding bytes name ≡ Some bytes
gave_part limit None name bytes front = refl
gave_part limit (Some files) name bytes front = front

gave : (holding : Option Holding) (name bytes : List ℕ) → IsFront holding name 1048576 bytes → file_source holding bytes name ≡ Some bytes
gave holding name bytes front = gave_part 1048576 holding name bytes front

lacks_part : (limit : ℕ) (holding : Option Holding) (name given : List ℕ) → IsMissing holding name → part_source limit holding given name ≡ None
lacks_part limit None name given missing = absurd missing
lacks_part limit (Some files) name given missing = rw missing refl

lacks : (holding : Option Holding) (name given : List ℕ) → IsMissing holding name → file_source holding given name ≡ None
lacks holding name given missing = lacks_part 1048576 holding name given missing

told : (holding : Option Holding) (name : List ℕ) → IsMissing holding name → IsTold holding
told None name missing = absurd missing
told (Some files) name missing = refl

-- errors say why
pub explains_read : (error : LoadError) (failed : Type 0) (holding : Option Holding) (name : List ℕ) (stops : Stop → Type 0)
    → ReadFails error failed (IsMissing holding name) → (IsMissing holding name → stops Missing) → Explains error failed (IsTold holding) stops
explains_read Unread failed holding name stops (inl fault) missing = inl fault
explains_read Unread failed holding name stops (inr none) missing = inr (told holding name none, missing none)
explains_read (Refused refusal) failed holding name stops fails missing = absurd fails
explains_read NoMemory failed holding name stops fails missing = tt

pub explains_file : {B : Type 0} (reading : Result B Refusal) (error : FileError) (failed is_told : Type 0) (stops : Stop → Type 0)
    → IsErrorOf reading error → ((refusal : Refusal) → reading ≡ Err refusal → stops (Refuses refusal)) → Explains (of_file error) failed is_told stops
explains_file reading (file.Refused refusal) failed is_told stops error of = of refusal error
explains_file reading file.NoMemory failed is_told stops error of = tt

pub explains_more : (error : LoadError) (failed failed' is_told : Type 0) (stops stops' : Stop → Type 0)
    → Explains error failed is_told stops → (failed → failed') → ((stop : Stop) → stops stop → stops' stop) → Explains error failed' is_told stops'
explains_more Unread failed failed' is_told stops stops' (inl fault) faults more = inl (faults fault)
explains_more Unread failed failed' is_told stops stops' (inr missing) faults more = inr (missing.0, more Missing missing.1)
explains_more (Refused refusal) failed failed' is_told stops stops' why faults more = more (Refuses refusal) why
explains_more NoMemory failed failed' is_told stops stops' why faults more = tt

-- the lab file
pub reads_lab : (notes : List PlugNote) (name : List ℕ) (holding : Option Holding) (bytes read : List ℕ) (reading : Result LabData Refusal)
    → IsFront holding name 1048576 bytes → read ≡ bytes → lab_of notes read ≡ reading → ReadsLab notes name holding (or_stop reading)
reads_lab notes name holding bytes read reading front same is =
    record { given = bytes; is = rw (gave holding name bytes front) (ap (λ b. or_stop (lab_of notes b)) (sym same) ∙ ap or_stop is) }

pub reads_nothing : (notes : List PlugNote) (name : List ℕ) (holding : Option Holding) → IsMissing holding name → ReadsLab notes name holding (Err Missing)
reads_nothing notes name holding missing = record { given = []; is = rw (lacks holding name [] missing) refl }

-- one entry
set_same : {X : Type 0} (xs : List X) (i : ℕ) (d : X) → i < length xs → set xs i (get_or xs i d) ≡ xs
set_same [] i d inside = absurd (omega arith)
set_same (x ∷ xs) zero d inside = refl
set_same (x ∷ xs) (suc i) d inside = ap (λ rest. x ∷ rest) (set_same xs i d (omega arith))

-- what stands there already changes nothing
set_alike : (entries : List Entry) (place : ℕ) (draft : Draft) → place < length entries → (entry_at entries place).draft ≡ draft → set_draft entries place draft ≡ entries
set_alike entries place draft inside is =
    ap (λ d. set entries place (record (entry_at entries place) { draft = d })) (sym is) ∙ set_same entries place no_entry inside

pub attaches_ready : (holding : Option Holding) (place : ℕ) (lab : LabData) (sheet_draft : Draft) → place < length lab.entries → (entry_at lab.entries place).draft ≡ sheet_draft
    → IsReadyDraft sheet_draft → Attaches holding place lab lab
attaches_ready holding place lab (Ready sheet) inside is ready = record {
  bytes = [];
  draft = Ready sheet;
  read = rw is refl;
  set = ap (λ es. record lab { entries = es }) (sym (set_alike lab.entries place (Ready sheet) inside is));
}
attaches_ready holding place lab (FromFile machine) inside is ready = absurd ready

-- the draft that the bytes give, and the lab with it
with_bytes : (lab now : LabData) (place : ℕ) (bytes : List ℕ) (made : Result Draft Refusal) → draft_with (place + 1) (entry_at lab.entries place).draft bytes ≡ made
    → attached lab place bytes ≡ Ok now → (draft : Draft) × (made ≡ Ok draft) × (now ≡ record lab { entries = set_draft lab.entries place draft })
with_bytes lab now place bytes (Ok draft) is all =
    let found : Ok (record lab { entries = set_draft lab.entries place draft }) ≡ Ok now = rw is at all in
    (draft, refl, cc)
with_bytes lab now place bytes (Err refusal) is all =
    let none : Err refusal ≡ Ok now = rw is at all in
    absurd (cc)

-- the draft of a machine whose file is there
with_file : (holding : Option Holding) (place : ℕ) (draft : Draft) (machine : MachineFile) (bytes : List ℕ) (made : Result Draft Refusal) → draft ≡ FromFile machine
    → file_source holding bytes machine.file ≡ Some bytes → draft_with (place + 1) (FromFile machine) bytes ≡ made
    → draft_read (file_source holding bytes) place draft ≡ or_stop made
with_file holding place draft machine bytes made is there drafted =
    ap (draft_read (file_source holding bytes) place) is
    ∙ ap (λ found. or_missing found >>= λ b. or_stop (draft_with (place + 1) (FromFile machine) b)) there
    ∙ ap or_stop drafted

pub attaches_file : (holding : Option Holding) (place : ℕ) (lab now : LabData) (machine : MachineFile) (name bytes read : List ℕ)
    → (entry_at lab.entries place).draft ≡ FromFile machine → name ≡ machine.file → IsFront holding name 1048576 bytes → read ≡ bytes → attached lab place read ≡ Ok now → Attaches holding place lab now
attaches_file holding place lab now machine name bytes read is named front_of_name same all =
    let front : IsFront holding machine.file 1048576 bytes = rw named at front_of_name in
    let made = with_bytes lab now place bytes (draft_with (place + 1) (entry_at lab.entries place).draft bytes) refl (ap (attached lab place) (sym same) ∙ all) in
    let given_draft : draft_with (place + 1) (FromFile machine) bytes ≡ Ok made.0 = ap (λ d. draft_with (place + 1) d bytes) (sym is) ∙ made.1 in
    record {
      bytes = bytes;
      draft = made.0;
      read = with_file holding place (entry_at lab.entries place).draft machine bytes (Ok made.0) is (gave holding machine.file bytes front) given_draft;
      set = made.2;
    }

-- a refusal of the whole is one of the draft
of_draft : (lab : LabData) (place : ℕ) (bytes : List ℕ) (refusal : Refusal) (made : Result Draft Refusal) → draft_with (place + 1) (entry_at lab.entries place).draft bytes ≡ made
    → attached lab place bytes ≡ Err refusal → made ≡ Err refusal
of_draft lab place bytes refusal (Ok draft) is all =
    let found : Ok (record lab { entries = set_draft lab.entries place draft }) ≡ Err refusal = rw is at all in
    absurd (cc)
of_draft lab place bytes refusal (Err other) is all =
    let found : Err other ≡ Err refusal = rw is at all in
    cc

pub stops_refused : (holding : Option Holding) (place : ℕ) (lab : LabData) (machine : MachineFile) (name bytes read : List ℕ) (refusal : Refusal)
    → (entry_at lab.entries place).draft ≡ FromFile machine → name ≡ machine.file → IsFront holding name 1048576 bytes → read ≡ bytes → attached lab place read ≡ Err refusal
    → AttachStops holding place lab (Refuses refusal)
stops_refused holding place lab machine name bytes read refusal is named front_of_name same all =
    let front : IsFront holding machine.file 1048576 bytes = rw named at front_of_name in
    let made = of_draft lab place bytes refusal (draft_with (place + 1) (entry_at lab.entries place).draft bytes) refl (ap (attached lab place) (sym same) ∙ all) in
    let given_draft : draft_with (place + 1) (FromFile machine) bytes ≡ Err refusal = ap (λ d. draft_with (place + 1) d bytes) (sym is) ∙ made in
    record {
      bytes = bytes;
      read = with_file holding place (entry_at lab.entries place).draft machine bytes (Err refusal) is (gave holding machine.file bytes front) given_draft;
    }

pub stops_missing : (holding : Option Holding) (place : ℕ) (lab : LabData) (machine : MachineFile) (name : List ℕ)
    → (entry_at lab.entries place).draft ≡ FromFile machine → name ≡ machine.file → IsMissing holding name → AttachStops holding place lab Missing
stops_missing holding place lab machine name is named none =
    let missing : IsMissing holding machine.file = rw named at none in
    record {
      bytes = [];
      read = rw (is, lacks holding machine.file [] missing) refl;
    }

-- as far as the entries are read
pub record SoFar (holding : Option Holding) (old now : LabData) (k : ℕ) : Type 0 where
  pub given : List (List ℕ)
  pub count : length given ≡ k
  pub same : (more : List (List ℕ)) → entries_read (machine_source holding (given ++ more)) [] old.entries
      ≡ entries_read (machine_source holding (given ++ more)) (take k now.entries) (drop k now.entries)
  pub rest : now ≡ record old { entries = now.entries }
  pub as_many : length now.entries ≡ length old.entries

pub none_yet : (holding : Option Holding) (lab : LabData) → SoFar holding lab lab 0
none_yet holding lab = record {
  given = [];
  count = refl;
  same = λ more. refl;
  rest = refl;
  as_many = refl;
}

-- the entry at the place with its draft, and those behind it
one_more : (source : ℕ → List ℕ → Option (List ℕ)) (entries : List Entry) (k : ℕ) (draft : Draft) → k < length entries → draft_read (source k) k (entry_at entries k).draft ≡ Ok draft
    → entries_read source (take k entries) (drop k entries) ≡ entries_read source (take (k + 1) (set_draft entries k draft)) (drop (k + 1) (set_draft entries k draft))
one_more source entries k draft inside read =
    let entry = entry_at entries k in
    let drafted : Entry = record entry { draft = draft } in
    let here : drop k entries ≡ entry ∷ drop (suc k) entries = drop-cons entries k no_entry inside in
    let count : length (take k entries) ≡ k = length-take-le k entries (omega arith) in
    let taken : take (k + 1) (set_draft entries k draft) ≡ take k entries ++ drafted ∷ [] = take_more_set entries k drafted inside in
    let left : drop (k + 1) (set_draft entries k draft) ≡ drop (k + 1) entries = drop-set-lt (k + 1) entries k drafted (omega arith) in
    ap (entries_read source (take k entries)) here
    ∙ ap (λ n. draft_read (source n) n entry.draft >>= λ d. entries_read source (take k entries ++ (record entry { draft = d }) ∷ []) (drop (suc k) entries)) count
    ∙ ap (λ r. r >>= λ d. entries_read source (take k entries ++ (record entry { draft = d }) ∷ []) (drop (suc k) entries)) read
    ∙ rw (taken, left, add-one k) refl

one_stops : (source : ℕ → List ℕ → Option (List ℕ)) (entries : List Entry) (k : ℕ) (stop : Stop) → k < length entries → draft_read (source k) k (entry_at entries k).draft ≡ Err stop
    → entries_read source (take k entries) (drop k entries) ≡ Err stop
one_stops source entries k stop inside read =
    let entry = entry_at entries k in
    let here : drop k entries ≡ entry ∷ drop (suc k) entries = drop-cons entries k no_entry inside in
    let count : length (take k entries) ≡ k = length-take-le k entries (omega arith) in
    ap (entries_read source (take k entries)) here
    ∙ ap (λ n. draft_read (source n) n entry.draft >>= λ d. entries_read source (take k entries ++ (record entry { draft = d }) ∷ []) (drop (suc k) entries)) count
    ∙ ap (λ r. r >>= λ d. entries_read source (take k entries ++ (record entry { draft = d }) ∷ []) (drop (suc k) entries)) read

-- the file of the entry at a place is what the read for it gave
read_here : (holding : Option Holding) (given more : List (List ℕ)) (bytes : List ℕ) (k : ℕ) (draft : Draft) → length given ≡ k
    → draft_read (machine_source holding (given ++ bytes ∷ more) k) k draft ≡ draft_read (file_source holding bytes) k draft
read_here holding given more bytes k draft count =
    let there : get_or (given ++ bytes ∷ more) k [] ≡ bytes = rw (sym count) (get_or-append_seam given bytes more []) in
    ap (λ b. draft_read (file_source holding b) k draft) there

pub next_step : (holding : Option Holding) (old now new : LabData) (k : ℕ) → k < length now.entries → SoFar holding old now k → Attaches holding k now new → SoFar holding old new (k + 1)
next_step holding old now new k inside far step =
    let entries_now : new.entries ≡ set_draft now.entries k step.draft = ap (λ (l : LabData). l.entries) step.set in
    record {
      given = far.given ++ step.bytes ∷ [];
      count = rw (length-append, far.count) refl;
      same = λ more.
          let grown : (far.given ++ step.bytes ∷ []) ++ more ≡ far.given ++ (step.bytes ∷ more) = append_assoc far.given (step.bytes ∷ []) more in
          let source = machine_source holding (far.given ++ (step.bytes ∷ more)) in
          let moved : entries_read source [] old.entries ≡ entries_read source (take (k + 1) new.entries) (drop (k + 1) new.entries)
          = far.same (step.bytes ∷ more) ∙ one_more source now.entries k step.draft inside (read_here holding far.given more step.bytes k (entry_at now.entries k).draft far.count ∙ step.read)
          ∙ ap (λ es. entries_read source (take (k + 1) es) (drop (k + 1) es)) (sym entries_now) in
          rw grown moved;
      rest = step.set ∙ ap (λ es. record now { entries = es }) (sym entries_now) ∙ ap (λ (l : LabData). record l { entries = new.entries }) far.rest;
      as_many = ap length entries_now ∙ length-set now.entries k _ ∙ far.as_many;
    }

pub stopped : (holding : Option Holding) (old now : LabData) (k : ℕ) (stop : Stop) → k < length now.entries → SoFar holding old now k → AttachStops holding k now stop → AttachAllStops holding old stop
stopped holding old now k stop inside far step = record {
  given = far.given ++ step.bytes ∷ [];
  is = far.same (step.bytes ∷ []) ∙ one_stops (machine_source holding (far.given ++ step.bytes ∷ [])) now.entries k stop inside (read_here holding far.given [] step.bytes k (entry_at now.entries k).draft far.count ∙ step.read);
}

pub all_read : (holding : Option Holding) (old now : LabData) (k : ℕ) → length now.entries ≤ k → SoFar holding old now k → AttachesAll holding old now
all_read holding old now k all far = record {
  given = far.given ++ [];
  is = far.same [] ∙ rw (take_all k now.entries all, drop_all k now.entries all) refl;
  rest = far.rest;
}

pub rose_earlier : (before between now : ℕ) → before ≤ between → Rose between now → Rose before now
rose_earlier before between now later rose = omega arith

-- where a whole goes through, its first part does
goes_on : {A B : Type 0} (r : Result A Stop) (next : A → Result B Stop) (now : B) → (r >>= next) ≡ Ok now → (x : A) × (r ≡ Ok x) × (next x ≡ Ok now)
goes_on (Ok x) next now is = (x, refl, is)
goes_on (Err stop) next now is = absurd (cc)

not_stopped : {A : Type 0} (r : Result A Refusal) (x : A) → or_stop r ≡ Ok x → r ≡ Ok x
not_stopped (Ok y) x is = let same : y ≡ x = cc in ap (λ z. Ok z) same
not_stopped (Err refusal) x is = absurd (cc)

-- drafts that are read are ready
of_rows : (number : ℕ) (machine : MachineFile) (bytes : List ℕ) (made : Draft) (sheet : Result SheetData Refusal) → csv_sheet number machine bytes ≡ sheet
    → draft_with number (FromFile machine) bytes ≡ Ok made → IsReadyDraft made
of_rows number machine bytes made (Ok sheet) is drafted =
    let there : Ok (Ready sheet) ≡ Ok made = rw is at drafted in
    let same : Ready sheet ≡ made = cc in
    rw (sym same) tt
of_rows number machine bytes made (Err refusal) is drafted =
    let none : Err refusal ≡ Ok made = rw is at drafted in
    absurd (cc)

draft_ready : (source : List ℕ → Option (List ℕ)) (place : ℕ) (draft made : Draft) → draft_read source place draft ≡ Ok made → IsReadyDraft made
draft_ready source place (Ready sheet) made read = let same : Ready sheet ≡ made = cc in rw (sym same) tt
draft_ready source place (FromFile machine) made read =
    let found = goes_on (or_missing (source machine.file)) (λ bytes. or_stop (draft_with (place + 1) (FromFile machine) bytes)) made read in
    of_rows (place + 1) machine found.0 made (csv_sheet (place + 1) machine found.0) refl (not_stopped (draft_with (place + 1) (FromFile machine) found.0) made found.2)

entries_ready : (source : ℕ → List ℕ → Option (List ℕ)) (done entries now : List Entry) → All IsReadyEntry done → entries_read source done entries ≡ Ok now → All IsReadyEntry now
entries_ready source done [] now ready read = let same : done ≡ now = cc in rw (sym same) ready
entries_ready source done (entry ∷ rest) now ready read =
    let step = goes_on (draft_read (source (length done)) (length done) entry.draft) (λ d. entries_read source (done ++ (record entry { draft = d }) ∷ []) rest) now read in
    entries_ready source (done ++ (record entry { draft = step.0 }) ∷ []) rest now
    (All-push IsReadyEntry done (record entry { draft = step.0 }) ready (draft_ready (source (length done)) (length done) entry.draft step.0 step.1)) step.2

none_ready : All IsReadyEntry []
none_ready k d inside = absurd (omega arith)

pub all_ready : (holding : Option Holding) (old new : LabData) → AttachesAll holding old new → All IsReadyEntry new.entries
all_ready holding old new all = entries_ready (machine_source holding all.given) [] old.entries new.entries none_ready all.is

-- drafts that are read name no plug but those of which there is a note
draft_noted : LabsAreNoted → (notes : List PlugNote) (source : List ℕ → Option (List ℕ)) (place : ℕ) (draft made : Draft)
    → IsNotedDraft notes draft → draft_read source place draft ≡ Ok made → IsNotedDraft notes made
draft_noted labs notes source place (Ready sheet) made noted read = let same : Ready sheet ≡ made = cc in rw (sym same) noted
draft_noted labs notes source place (FromFile machine) made noted read =
    let found = goes_on (or_missing (source machine.file)) (λ bytes. or_stop (draft_with (place + 1) (FromFile machine) bytes)) made read in
    labs.filed notes (place + 1) (FromFile machine) made found.0 (not_stopped (draft_with (place + 1) (FromFile machine) found.0) made found.2) noted

entries_noted : LabsAreNoted → (notes : List PlugNote) (source : ℕ → List ℕ → Option (List ℕ)) (done entries now : List Entry)
    → AreNoted notes done → AreNoted notes entries → entries_read source done entries ≡ Ok now → AreNoted notes now
entries_noted labs notes source done [] now before noted read = let same : done ≡ now = cc in rw (sym same) before
entries_noted labs notes source done (entry ∷ rest) now before noted read =
    let step = goes_on (draft_read (source (length done)) (length done) entry.draft) (λ d. entries_read source (done ++ (record entry { draft = d }) ∷ []) rest) now read in
    let own : IsNotedDraft notes entry.draft = noted 0 entry (omega arith) in
    entries_noted labs notes source (done ++ (record entry { draft = step.0 }) ∷ []) rest now
    (All-push (λ (e : Entry). IsNotedDraft notes e.draft) done (record entry { draft = step.0 }) before
    (draft_noted labs notes (source (length done)) (length done) entry.draft step.0 own step.1))
    (λ k d inside. noted (suc k) d (omega (arith, inside))) step.2

none_noted : (notes : List PlugNote) → AreNoted notes []
none_noted notes k d inside = absurd (omega arith)

first_noted : LabsAreNoted → (notes : List PlugNote) (found : Option (List ℕ)) (lab : LabData) → lab_read notes found ≡ Ok lab → AreNoted notes lab.entries
first_noted labs notes None lab read = absurd (cc)
first_noted labs notes (Some bytes) lab read = labs.read notes bytes lab (not_stopped (lab_of notes bytes) lab read)

pub all_noted : LabsAreNoted → (notes : List PlugNote) (name : List ℕ) (holding later : Option Holding) (first lab : LabData)
    → ReadsLab notes name holding (Ok first) → AttachesAll later first lab → AreNoted notes lab.entries
all_noted labs notes name holding later first lab reads all =
    entries_noted labs notes (machine_source later all.given) [] first.entries lab.entries (none_noted notes)
    (first_noted labs notes (file_source holding reads.given name) first reads.is) all.is

-- the whole
pub loads_lab : (notes : List PlugNote) (name : List ℕ) (holding : Option Holding) (first lab : LabData)
    → ReadsLab notes name holding (Ok first) → AttachesAll holding first lab → Loads notes name holding (Ok lab)
loads_lab notes name holding first lab reads attaches = record {
  lab_given = reads.given;
  machines_given = attaches.given;
  is = ap (λ r. r >>= λ (l : LabData). entries_read (machine_source holding attaches.given) [] l.entries >>= λ es. Ok (record l { entries = es })) reads.is
      ∙ ap (λ r. r >>= λ es. Ok (record first { entries = es })) attaches.is
      ∙ ap (λ (l : LabData). Ok l) (sym attaches.rest);
}

pub stops_attaching : (notes : List PlugNote) (name : List ℕ) (holding : Option Holding) (first : LabData) (stop : Stop)
    → ReadsLab notes name holding (Ok first) → AttachAllStops holding first stop → Loads notes name holding (Err stop)
stops_attaching notes name holding first stop reads stops = record {
  lab_given = reads.given;
  machines_given = stops.given;
  is = ap (λ r. r >>= λ (l : LabData). entries_read (machine_source holding stops.given) [] l.entries >>= λ es. Ok (record l { entries = es })) reads.is
      ∙ ap (λ r. r >>= λ es. Ok (record first { entries = es })) stops.is;
}

pub stops_reading : (notes : List PlugNote) (name : List ℕ) (holding : Option Holding) (stop : Stop)
    → ReadsLab notes name holding (Err stop) → Loads notes name holding (Err stop)
stops_reading notes name holding stop reads = record {
  lab_given = reads.given;
  machines_given = [];
  is = ap (λ r. r >>= λ (l : LabData). entries_read (machine_source holding []) [] l.entries >>= λ es. Ok (record l { entries = es })) reads.is;
}

-- the second file
pub reads_second : (command : Command) (role : FileRole) (name : List ℕ) (holding : Option Holding) (bytes : List ℕ) (limit : ℕ) (reading : Result Second Refusal)
    → second_role command ≡ Some role → limit ≡ longest role → IsFront holding name limit bytes → reading ≡ second_of role bytes
    → ReadsSecond command name holding (or_stop reading)
reads_second command role name holding bytes limit reading has same front is = record {
  given = bytes;
  is = ap (λ r. second_read r (λ limit. part_source limit holding bytes name)) has
      ∙ ap (λ found. or_missing found >>= λ b. or_stop (second_of role b)) (gave_part (longest role) holding name bytes (rw same at front))
      ∙ ap or_stop (sym is);
}

pub lacks_second : (command : Command) (role : FileRole) (name : List ℕ) (holding : Option Holding) → second_role command ≡ Some role → IsMissing holding name
    → ReadsSecond command name holding (Err Missing)
lacks_second command role name holding has missing = record {
  given = [];
  is = ap (λ r. second_read r (λ limit. part_source limit holding [] name)) has
      ∙ ap (λ found. or_missing found >>= λ b. or_stop (second_of role b)) (lacks_part (longest role) holding name [] missing);
}

pub reads_none : (command : Command) (name : List ℕ) (holding : Option Holding) → second_role command ≡ None → ReadsSecond command name holding (Ok Alone)
reads_none command name holding none = record { given = []; is = ap (λ r. second_read r (λ limit. part_source limit holding [] name)) none }

-- the files of a command, and between them the limits of its job

-- the lab of the command, or why there is none
for_lab : (command : Command) (notes : List PlugNote) (name : List ℕ) (holding : Option Holding) (found : Result LabData Stop) → (loads : Loads notes name holding found)
    → lab_for command notes (file_source holding loads.lab_given name) (machine_source holding loads.machines_given) ≡ (found >>= lab_kept command notes)
for_lab command notes name holding found loads = ap (λ r. r >>= lab_kept command notes) loads.is

-- what is loaded once the limits have given this answer
by_limits : (command : Command) (notes : List PlugNote) (names : Names) (holding : Option Holding) (lab : LabData) (limits : Result (Unit {0}) Refusal) (second : List ℕ)
    → (loads : Loads notes names.lab holding (Ok lab)) → limits_of notes command lab ≡ limits
    → loaded_for command notes (sources names holding (record { lab = loads.lab_given; machines = loads.machines_given; second = second }))
    ≡ ((or_stop limits >>= λ kept. Ok lab) >>= λ (l : LabData). second_for command (λ limit. part_source limit holding second names.second) >>= λ s. Ok (OfLab l s))
by_limits command notes names holding lab limits second loads is =
    ap (λ r. r >>= λ (l : LabData). second_for command (λ limit. part_source limit holding second names.second) >>= λ s. Ok (OfLab l s))
    (for_lab command notes names.lab holding (Ok lab) loads ∙ ap (λ r. or_stop r >>= λ kept. Ok lab) is)

pub loads_both : (command : Command) (notes : List PlugNote) (names : Names) (holding later : Option Holding) (lab : LabData) (second : Second)
    → later ≡ holding → Loads notes names.lab holding (Ok lab) → limits_of notes command lab ≡ Ok tt → ReadsSecond command names.second later (Ok second)
    → LoadsInput command notes names holding (Ok (OfLab lab second))
loads_both command notes names holding later lab second same loads kept reads_later =
    let reads : ReadsSecond command names.second holding (Ok second) = rw same at reads_later in
    record {
      given = record { lab = loads.lab_given; machines = loads.machines_given; second = reads.given };
      is = by_limits command notes names holding lab (Ok tt) reads.given loads kept ∙ ap (λ r. r >>= λ s. Ok (OfLab lab s)) reads.is;
    }

pub stops_second : (command : Command) (notes : List PlugNote) (names : Names) (holding later : Option Holding) (lab : LabData) (stop : Stop)
    → later ≡ holding → Loads notes names.lab holding (Ok lab) → limits_of notes command lab ≡ Ok tt → ReadsSecond command names.second later (Err stop)
    → LoadsInput command notes names holding (Err stop)
stops_second command notes names holding later lab stop same loads kept reads_later =
    let reads : ReadsSecond command names.second holding (Err stop) = rw same at reads_later in
    record {
      given = record { lab = loads.lab_given; machines = loads.machines_given; second = reads.given };
      is = by_limits command notes names holding lab (Ok tt) reads.given loads kept ∙ ap (λ r. r >>= λ s. Ok (OfLab lab s)) reads.is;
    }

pub stops_limits : (command : Command) (notes : List PlugNote) (names : Names) (holding : Option Holding) (lab : LabData) (refusal : Refusal)
    → Loads notes names.lab holding (Ok lab) → limits_of notes command lab ≡ Err refusal → LoadsInput command notes names holding (Err (Refuses refusal))
stops_limits command notes names holding lab refusal loads refused = record {
  given = record { lab = loads.lab_given; machines = loads.machines_given; second = [] };
  is = by_limits command notes names holding lab (Err refusal) [] loads refused;
}

pub stops_first : (command : Command) (notes : List PlugNote) (names : Names) (holding : Option Holding) (stop : Stop)
    → Loads notes names.lab holding (Err stop) → LoadsInput command notes names holding (Err stop)
stops_first command notes names holding stop loads = record {
  given = record { lab = loads.lab_given; machines = loads.machines_given; second = [] };
  is = ap (λ r. r >>= λ (l : LabData). second_for command (λ limit. part_source limit holding [] names.second) >>= λ s. Ok (OfLab l s))
      (for_lab command notes names.lab holding (Err stop) loads);
}
