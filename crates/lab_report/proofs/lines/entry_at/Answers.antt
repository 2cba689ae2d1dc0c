use Rattle.std.proofs.Common.{ℕ, rules, Some, sym, ap, ◌∙◌}
use Rattle.result_lines.specs.declared.tables.EntryLine.{EntryLine}
use Rattle.report_lines.specs.declared.line.Line.TheVariants as lines
use Rattle.report_lines.specs.declared.line.ShownEntry.{ShownEntry}
use Rattle.report_rules.specs.Text.{shown_entry}
use Rattle.lab_report.proofs.Numbered.{beside_there, no_left, no_right}
use Rattle.lab_report.proofs.lines.entry_at.Goals as goal

pub returns-in_err-place : goal.returns-in_err-place
returns-in_err-place c =
    let none = no_left (λ (place : ℕ) (entry : EntryLine). lines.Entry (shown_entry c.args.names.now place entry)) c.args.who.now c.args.entries.now c.args.index c.in_err-place.ensures.lookup.3 in
    search (rules, none)

pub returns-in_err-entry : goal.returns-in_err-entry
returns-in_err-entry c =
    let none = no_right (λ (place : ℕ) (entry : EntryLine). lines.Entry (shown_entry c.args.names.now place entry)) c.args.who.now c.args.entries.now c.args.index c.in_err-entry.ensures.lookup.3 in
    search (rules, none)

pub returns : goal.returns
returns c =
    ap (λ (shown : ShownEntry). Some (lines.Entry shown)) c.shown_entry.ensures
    ∙ sym (beside_there (λ (place : ℕ) (entry : EntryLine). lines.Entry (shown_entry c.args.names.now place entry)) c.args.who.now c.args.entries.now c.args.index c.in_ok-place.place.now c.in_ok-entry.entry.now c.in_ok-place.ensures.lookup.3.0
    c.in_ok-place.ensures.lookup.1 c.in_ok-entry.ensures.lookup.3.0 c.in_ok-entry.ensures.lookup.1)
