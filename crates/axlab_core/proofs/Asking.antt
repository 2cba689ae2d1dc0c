-- The files that a call asks for, read by read.
use Rattle.std.proofs.Common.{◌≡◌, ℕ, suc, ◌+◌, ◌<◌, ◌≤◌, List, [], ◌∷◌, ◌++◌, length, drop, Option, None, Some, Ok, refl, sym, ◌∙◌, ap, arith, add-one, drop-cons}
use Rattle.std.proofs.lemmas.List.{append_assoc, drop_all, drop-set-lt}
use Rattle.player_core.specs.declared.bench.PlugNote.{PlugNote}
use Rattle.refusals.specs.declared.refusal.FileRole.{FileRole}
use Rattle.lab_ports.specs.Holding.{Holding}
use Rattle.strategy_file.specs.declared.draft.Draft.{Draft}
use Rattle.strategy_file.specs.declared.draft.Draft.TheVariants.{Ready, FromFile}
use Rattle.strategy_file.specs.declared.draft.MachineFile.{MachineFile}
use Rattle.lab_file.specs.declared.command.Command.{Command}
use Rattle.lab_file.specs.declared.lab.Entry.{Entry}
use Rattle.lab_file.specs.Lab.{LabData, entry_at, no_entry}
use Rattle.lab_file.specs.Attached.{set_draft}
use Rattle.axlab_core.specs.declared.words.Form.TheVariants.{Lab}
use Rattle.axlab_core.specs.Files.{AskedFront, AskedInOrder, AskedLab, AskedWholeLab, file_in, files_behind, machine_file, machine_files, second_file}
use Rattle.axlab_core.specs.Input.{second_role}
use Rattle.axlab_core.specs.Loading.{file_source, lab_read}
use Rattle.play_commands.specs.Ready.{IsReadyDraft}
use Rattle.axlab_core.specs.Steps.{Attaches, ReadsLab}
use Rattle.axlab_core.proofs.Fronts.{append_none, asked_then, front_all, front_more, front_none, front_then}

-- one entry
pub asked_ready : (asked : List (List ℕ)) (draft made : Draft) → draft ≡ made → IsReadyDraft made → asked ≡ asked ++ machine_file draft
asked_ready asked draft (Ready sheet) is ready = rw is (sym (append_none asked))
asked_ready asked draft (FromFile machine) is ready = absurd ready

pub asked_file : (before now : List (List ℕ)) (name : List ℕ) (draft : Draft) (machine : MachineFile) → draft ≡ FromFile machine → name ≡ machine.file
    → now ≡ before ++ name ∷ [] → now ≡ before ++ machine_file draft
asked_file before now name draft machine is same asked = rw is (asked ∙ ap (λ n. before ++ n ∷ []) same)

-- the entries one after the other: what was asked for, and what is left to ask for
pub record AskedSoFar (files before now : List (List ℕ)) (left : List Entry) : Type 0 where
  pub done : List (List ℕ)
  pub is : now ≡ before ++ done
  pub rest : done ++ machine_files left ≡ files

pub asked_none_yet : (asked : List (List ℕ)) (entries : List Entry) → AskedSoFar (machine_files entries) asked asked entries
asked_none_yet asked entries = record { done = []; is = sym (append_none asked); rest = refl }

next_file : (entries : List Entry) (k : ℕ) → k < length entries
    → machine_files (drop k entries) ≡ machine_file (entry_at entries k).draft ++ machine_files (drop (suc k) entries)
next_file entries k inside = ap machine_files (drop-cons entries k no_entry inside)

pub asked_step : (holding : Option Holding) (files before mid now : List (List ℕ)) (lab made : LabData) (k : ℕ) → k < length lab.entries
    → AskedSoFar files before mid (drop k lab.entries) → now ≡ mid ++ machine_file (entry_at lab.entries k).draft → Attaches holding k lab made
    → AskedSoFar files before now (drop (k + 1) made.entries)
asked_step holding files before mid now lab made k inside far asked step =
    let file = machine_file (entry_at lab.entries k).draft in
    let entries_made : made.entries ≡ set_draft lab.entries k step.draft = ap (λ (l : LabData). l.entries) step.set in
    let left : drop (k + 1) made.entries ≡ drop (suc k) lab.entries =
    ap (drop (k + 1)) entries_made ∙ drop-set-lt (k + 1) lab.entries k _ (omega arith) ∙ ap (λ n. drop n lab.entries) (add-one k) in
    record {
      done = far.done ++ file;
      is = asked_then far.done file before mid now far.is asked;
      rest = ap (λ es. (far.done ++ file) ++ machine_files es) left
          ∙ append_assoc far.done file (machine_files (drop (suc k) lab.entries))
          ∙ ap (λ fs. far.done ++ fs) (sym (next_file lab.entries k inside)) ∙ far.rest;
    }

pub asked_stopped : (files before mid now : List (List ℕ)) (entries : List Entry) (k : ℕ) → k < length entries
    → AskedSoFar files before mid (drop k entries) → now ≡ mid ++ machine_file (entry_at entries k).draft → AskedFront files before now
asked_stopped files before mid now entries k inside far asked =
    let file = machine_file (entry_at entries k).draft in
    let more = machine_files (drop (suc k) entries) in
    let same : (far.done ++ file) ++ more ≡ files = append_assoc far.done file more ∙ ap (λ fs. far.done ++ fs) (sym (next_file entries k inside)) ∙ far.rest in
    let front : AskedFront ((far.done ++ file) ++ more) before now =
    front_more (far.done ++ file) more before now (front_all (far.done ++ file) before now (asked_then far.done file before mid now far.is asked)) in
    rw same at front

pub asked_all : (files before now : List (List ℕ)) (entries : List Entry) (k : ℕ) → length entries ≤ k → AskedSoFar files before now (drop k entries) → now ≡ before ++ files
asked_all files before now entries k all far =
    let none : machine_files (drop k entries) ≡ [] = ap machine_files (drop_all k entries all) in
    far.is ∙ ap (λ fs. before ++ fs) (sym (append_none far.done) ∙ ap (λ fs. far.done ++ fs) (sym none) ∙ far.rest)

-- the lab file alone
pub asked_first : (name : List ℕ) (notes : List PlugNote) (holding : Option Holding) (before now : List (List ℕ)) → now ≡ before ++ name ∷ [] → AskedLab name notes holding before now
asked_first name notes holding before now asked = record {
  given = [];
  front = λ command second.
      let behind = files_behind command second (lab_read notes (file_source holding [] name)) in
      front_then (name ∷ []) behind before now now asked (front_none behind now now refl);
}

-- the lab file, and machines up to some place
pub asked_some : (name : List ℕ) (notes : List PlugNote) (holding : Option Holding) (first : LabData) (before mid now : List (List ℕ)) → mid ≡ before ++ name ∷ []
    → ReadsLab notes name holding (Ok first) → AskedFront (machine_files first.entries) mid now → AskedLab name notes holding before now
asked_some name notes holding first before mid now asked reads front = record {
  given = reads.given;
  front = λ command second. rw reads.is (front_then (name ∷ []) (machine_files first.entries ++ second_file command second) before mid now asked
      (front_more (machine_files first.entries) (second_file command second) mid now front));
}

-- all of them
pub asked_lab : (name : List ℕ) (notes : List PlugNote) (holding : Option Holding) (first : LabData) (before mid now : List (List ℕ)) → mid ≡ before ++ name ∷ []
    → ReadsLab notes name holding (Ok first) → now ≡ mid ++ machine_files first.entries → AskedWholeLab name notes holding before now
asked_lab name notes holding first before mid now asked reads all = record {
  given = reads.given;
  lab = first;
  read = reads.is;
  all = asked_then (name ∷ []) (machine_files first.entries) before mid now asked all;
}

-- the second file
pub asked_no_second : (command : Command) (name : List ℕ) (asked : List (List ℕ)) → second_role command ≡ None → asked ≡ asked ++ second_file command name
asked_no_second command name asked none = sym (append_none asked) ∙ ap (λ r. asked ++ file_in r name) (sym none)

pub asked_second : (command : Command) (role : FileRole) (name : List ℕ) (before now : List (List ℕ)) → second_role command ≡ Some role
    → now ≡ before ++ name ∷ [] → now ≡ before ++ second_file command name
asked_second command role name before now has asked = asked ∙ ap (λ r. before ++ file_in r name) (sym has)

-- the whole
pub asked_up_to_lab : (command : Command) (name second : List ℕ) (notes : List PlugNote) (holding : Option Holding) (before now : List (List ℕ))
    → AskedLab name notes holding before now → AskedInOrder (Lab command) (record { lab = name; second = second }) notes holding before now
asked_up_to_lab command name second notes holding before now asked = record { given = asked.given; front = asked.front command second }

pub asked_whole : (command : Command) (name second : List ℕ) (notes : List PlugNote) (holding : Option Holding) (before mid now : List (List ℕ))
    → AskedWholeLab name notes holding before mid → now ≡ mid ++ second_file command second
    → AskedInOrder (Lab command) (record { lab = name; second = second }) notes holding before now
asked_whole command name second notes holding before mid now asked last = record {
  given = asked.given;
  front = rw asked.read (front_all (name ∷ (machine_files asked.lab.entries ++ second_file command second)) before now
      (asked_then (name ∷ machine_files asked.lab.entries) (second_file command second) before mid now asked.all last));
}

pub asked_lab_only : (name : List ℕ) (notes : List PlugNote) (holding : Option Holding) (before now : List (List ℕ))
    → AskedWholeLab name notes holding before now → AskedLab name notes holding before now
asked_lab_only name notes holding before now asked = record {
  given = asked.given;
  front = λ command second. rw asked.read (front_more (name ∷ machine_files asked.lab.entries) (second_file command second) before now
      (front_all (name ∷ machine_files asked.lab.entries) before now asked.all));
}
