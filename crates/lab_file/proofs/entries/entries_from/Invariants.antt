use Rattle.std.proofs.Common.{◌≡◌, [], drop, length}
use Rattle.toml.specs.View.{items_view}
use Rattle.lab_file.specs.Lab.{HaveNoise, NamesDiffer}
use Rattle.lab_file.specs.LabOf.{entries_from}
use Rattle.lab_file.proofs.entries.entries_from.Given as goal

abbrev pub invariant-loop-value : goal.invariant-loop-value
invariant-loop-value l = record {
  entries : entries_from l.notes.items l.version l.noise [] (items_view l.array.items) ≡ entries_from l.notes.items l.version l.noise l.before.items (items_view (drop l.value-index l.array.items));
  whole : length l.before.items ≡ l.value-index;
  differ : NamesDiffer l.before.items;
  first : l.version ≡ 1 → HaveNoise l.noise l.before.items;
}
