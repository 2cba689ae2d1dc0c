-- The lines of a report's head are read from their texts.
use Rattle.std.proofs.Common.{refl}
use Rattle.texts.specs.Forms.{AreFields}
use Rattle.texts.proofs.FormLaws.{last, both, reshaped, only_those}
use Rattle.report_lines.specs.HeadForms.{is_version, head_form, game_form, own_form}
use Rattle.report_lines.proofs.FieldLaws.{Below, name_field, count_field, kind_field, payoff_field, dilemma_fields, noise_fields}

pub head_exact : Below → AreFields head_form
head_exact l = only_those is_version _ (reshaped _ _ _ (λ x. refl) (both _ _ (count_field l) (last _ kind_field)))

pub game_exact : Below → AreFields game_form
game_exact l =
    let pay = payoff_field l in
    reshaped _ _ _ (λ x. refl) (both _ _ pay (both _ _ pay (both _ _ pay (both _ _ pay dilemma_fields))))

pub own_exact : Below → AreFields own_form
own_exact l = reshaped _ _ _ (λ x. refl) (both _ _ name_field (noise_fields l))
