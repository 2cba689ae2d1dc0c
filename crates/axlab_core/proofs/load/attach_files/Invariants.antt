use Rattle.std.proofs.Common.{◌≡◌, ◌≤◌, drop, length}
use Rattle.axlab_core.specs.Files.{machine_files}
use Rattle.axlab_core.proofs.Asking.{AskedSoFar}
use Rattle.axlab_core.proofs.Loading.{SoFar}
use Rattle.axlab_core.proofs.load.attach_files.Given as goal

abbrev pub invariant-loop-place : goal.invariant-loop-place
invariant-loop-place g l = record {
  far : SoFar (g.L.Library.holding l.fn.files) l.fn.lab l.lab l.place;
  asked : AskedSoFar (machine_files l.fn.lab.entries) (g.L.Library.asked l.fn.files) (g.L.Library.asked l.files) (drop l.place l.lab.entries);
  held : g.L.Library.holding l.files ≡ g.L.Library.holding l.fn.files;
  later : g.L.Library.faults l.fn.files ≤ g.L.Library.faults l.files;
  last : l.place-end ≡ length l.fn.lab.entries;
}
