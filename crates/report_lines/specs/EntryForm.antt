-- The line of an entry, behind its word.
use Rattle.std.specs.Prelude.{ℕ, Bool, List, Option}
use Rattle.texts.specs.Forms.{Form, ◌and◌, shaped}
use Rattle.report_lines.specs.declared.line.ShownEntry.{ShownEntry}
use Rattle.report_lines.specs.Fields.{a_name, a_total, a_rank, a_count}

-- its name, its total, its rank, how many matches it won, and how many are undecided
abbrev pub entry_form : Form ShownEntry
entry_form =
    shaped (λ x. (x.name, (x.total, (x.rank, (x.wins, x.undecided)))))
    (λ p. record { name = p.0; total = p.1.0; rank = p.1.1.0; wins = p.1.1.1.0; undecided = p.1.1.1.1 })
    (a_name and a_total and a_rank and a_count and a_count)

abbrev pub is_entry : ShownEntry → Bool
is_entry x = entry_form.is_in x

unfoldable pub entry_of : List ℕ → Option ShownEntry
entry_of t = entry_form.read t
