-- The lines of a rota are read from their texts.
use Rattle.std.proofs.Common.{ℕ, refl}
use Rattle.texts.specs.Forms.{Form, AreFields, IsField}
use Rattle.texts.proofs.FormLaws.{last, both, reshaped, only_those}
use Rattle.rota_rows.specs.Lines.{RotaLinesAreExact, are_few, row_form_with, scores_form, tally_form}
use Rattle.rota_rows.proofs.FieldLaws.{Below, count_field, mark_field, name_field, plays_field, score_field}
use Rattle.rota_rows.proofs.InRange.{row_back, row_is, scores_are, scores_back}

pub tally_exact : Below → AreFields tally_form
tally_exact l =
    let plays = plays_field l in
    only_those are_few _ (reshaped _ _ _ (λ x. refl) (both _ _ plays (both _ _ plays (both _ _ plays (last _ plays)))))

pub row_exact_with : Below → (mark : Form ℕ) → IsField mark → AreFields (row_form_with mark)
row_exact_with l mark h = reshaped _ _ _ (λ x. refl) (both _ _ (count_field l) (both _ _ name_field (both _ _ name_field (both _ _ h (both _ _ h (tally_exact l))))))

pub scores_exact : Below → AreFields scores_form
scores_exact l = reshaped _ _ _ (λ x. refl) (both _ _ (count_field l) (both _ _ (score_field l) (last _ (score_field l))))

pub exact : Below → RotaLinesAreExact
exact l = record {
  rows = row_exact_with l _ (mark_field l);
  scores = scores_exact l;
  row_range = λ x. (row_is x, row_back x);
  scores_range = λ x. (scores_are x, scores_back x);
}
