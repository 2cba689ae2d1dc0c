use Rattle.std.proofs.Common.{◌≡◌, ℕ, IfOk, map, sym, ◌∙◌, ap, subst, arith}
use Rattle.result_lines.specs.Lowered.{lowered}
use Rattle.result_lines.specs.Totals.{entries_of}
use Rattle.result_lines.proofs.Summing.{raised_summable}
use Rattle.result_lines.proofs.Offsets.{many_entries}
use Rattle.result_lines.proofs.tables.Totals.lowered.Goals as goal

pub returns-then-offset-eq0-clause-matches : goal.returns-then-offset-eq0-clause-matches
returns-then-offset-eq0-clause-matches c =
    let none : c.args.offset ≡ 0 = omega arith in
    sym (ap (λ n. map (lowered n) c.args.self.matches) none ∙ c.totals_are_lowered.ensures.all_by_none c.args.self.matches)

pub returns-then-offset-eq0-clause-scores : goal.returns-then-offset-eq0-clause-scores
returns-then-offset-eq0-clause-scores c = raised_summable c.args.self.matches c.requires.raised.raised

pub returns-clause-entries : goal.returns-clause-entries
returns-clause-entries c =
    λ count are.
    let P : ℕ → Type 0 = λ n. IfOk c.results_of.result (λ totals. totals.entries ≡ entries_of n totals.matches) in
    subst P (many_entries count c.args.self.entries c.args.self.matches are) c.results_of.ensures.entries
