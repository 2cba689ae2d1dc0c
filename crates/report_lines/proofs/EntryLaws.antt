-- The line of an entry is read from its text.
use Rattle.std.proofs.Common.{refl}
use Rattle.texts.specs.Forms.{AreFields}
use Rattle.texts.proofs.FormLaws.{last, both, reshaped}
use Rattle.report_lines.specs.EntryForm.{entry_form}
use Rattle.report_lines.proofs.FieldLaws.{Below, name_field, total_field, rank_field, count_field}

pub entry_exact : Below → AreFields entry_form
entry_exact l = reshaped _ _ _ (λ x. refl) (both _ _ name_field (both _ _ (total_field l) (both _ _ (rank_field l) (both _ _ (count_field l) (last _ (count_field l))))))
