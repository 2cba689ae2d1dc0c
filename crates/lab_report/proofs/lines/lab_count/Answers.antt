use Rattle.std.proofs.Common.{◌≡◌, ◌⊎◌, subst}
use Rattle.report_lines.specs.declared.line.Kind.{Kind}
use Rattle.report_lines.specs.declared.line.Kind.TheVariants as kinds
use Rattle.report_rules.specs.Text.{kind_of}
use Rattle.lab_report.proofs.Numbered.{lab_long}
use Rattle.lab_report.proofs.lines.lab_count.Goals as goal

pub returns-in-Match : goal.returns-in-Match
returns-in-Match c =
    let r = c.args.report.now in
    rw c.as_slice.ensures (lab_long (kind_of r.body) r.offset r.game r.noise r.names r.noises (subst (λ (kind : Kind). (kind ≡ kinds.Match) ⊎ (kind ≡ kinds.Tournament)) c.kind_of.ensures c.in-Match.is) c.requires)
