use Rattle.std.proofs.Common.{◌∙◌, sym, refl}
use Rattle.std.proofs.lemmas.List.{length-append}
use Rattle.lab_file.proofs.Entering.{next_entry}
use Rattle.lab_file.proofs.Names.{names_pushed}
use Rattle.lab_file.proofs.Noises.{noise_pushed}
use Rattle.lab_file.proofs.entries.entries_from.Goals as goal

pub loop-value-preserved : goal.loop-value-preserved
loop-value-preserved c = record {
  entries = c.loop-value.invariant.entries
      ∙ next_entry _ _ _ _ _ _ _ _ c.loop-value.value-index c.value-item.result c.top.result _ c.in_ok-entry.entry c.deref-value-items.ensures.value c.loop-value-test.true c.value-item.is
      c.top.ensures (sym c.in_ok-table.ensures) c.as_slice.ensures.value c.in_ok-entry.ensures.entry c.in_ok-push.ensures.items;
  whole = rw (c.in_ok-push.ensures.items, length-append, c.loop-value.invariant.whole) refl;
  differ = names_pushed _ _ _ c.in_ok-entry.entry c.as_slice.ensures.value c.in_ok-push.ensures.items c.loop-value.invariant.differ c.in_ok-entry.ensures.new;
  first = λ first. noise_pushed _ _ _ c.in_ok-entry.entry c.in_ok-push.ensures.items (c.loop-value.invariant.first first) (c.in_ok-entry.ensures.first first);
}
