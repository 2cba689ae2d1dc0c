use Rattle.std.proofs.Common.{ℕ, List, rules}
use Rattle.history_model.specs.Noise.{FlipRate}
use Rattle.report_lines.specs.declared.line.Line.TheVariants as lines
use Rattle.report_rules.specs.Text.{shown_own}
use Rattle.lab_report.proofs.Numbered.{beside_there, no_left, no_right}
use Rattle.lab_report.proofs.lines.own_at.Goals as goal

pub returns-in_err-name : goal.returns-in_err-name
returns-in_err-name c =
    let none = no_left (λ (name : List ℕ) (noise : FlipRate). lines.Own (shown_own name noise)) c.args.names.now c.args.noises.now c.args.index c.in_err-name.ensures.lookup.3 in
    search (rules, none)

pub returns-in_err-noise : goal.returns-in_err-noise
returns-in_err-noise c =
    let none = no_right (λ (name : List ℕ) (noise : FlipRate). lines.Own (shown_own name noise)) c.args.names.now c.args.noises.now c.args.index c.in_err-noise.ensures.lookup.3 in
    search (rules, none)

pub returns : goal.returns
returns c =
    let there = beside_there (λ (name : List ℕ) (noise : FlipRate). lines.Own (shown_own name noise)) c.args.names.now c.args.noises.now c.args.index c.in_ok-name.name.now c.in_ok-noise.noise.now c.in_ok-name.ensures.lookup.3.0
    c.in_ok-name.ensures.lookup.1 c.in_ok-noise.ensures.lookup.3.0 c.in_ok-noise.ensures.lookup.1 in
    search (rules, there)
