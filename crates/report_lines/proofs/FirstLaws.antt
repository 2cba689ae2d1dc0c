-- The line of a machine of the first rank is read from its text.
use Rattle.std.proofs.Common.{refl}
use Rattle.texts.specs.Forms.{AreFields}
use Rattle.texts.proofs.FormLaws.{last, both, reshaped}
use Rattle.report_lines.specs.FirstForm.{first_form}
use Rattle.report_lines.proofs.FieldLaws.{Below, name_field, point_field}

pub first_exact : Below → AreFields first_form
first_exact l = reshaped _ _ _ (λ x. refl) (both _ _ name_field (last _ (point_field l)))
