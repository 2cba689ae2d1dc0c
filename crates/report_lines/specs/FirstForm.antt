-- The line of a machine of the first rank, behind its word.
use Rattle.std.specs.Prelude.{ℕ, Bool, List, Option}
use Rattle.texts.specs.Forms.{Form, ◌and◌, shaped}
use Rattle.report_lines.specs.declared.line.ShownFirst.{ShownFirst}
use Rattle.report_lines.specs.Fields.{a_name, a_point}

-- its name and its total
abbrev pub first_form : Form ShownFirst
first_form = shaped (λ x. (x.name, x.total)) (λ p. record { name = p.0; total = p.1 }) (a_name and a_point)

abbrev pub is_first : ShownFirst → Bool
is_first x = first_form.is_in x

unfoldable pub first_of : List ℕ → Option ShownFirst
first_of t = first_form.read t
