use Rattle.std.proofs.Common.{Option, Some, None, IfSome, sym, ap, subst, ◌∙◌, arith}
use Rattle.report_rules.specs.declared.state.State.{State}
use Rattle.report_rules.specs.Grammar.{StateHasRoom, is_ended}
use Rattle.report_rules.proofs.Loops.{all_read, given, left_over, not_ended, turned}
use Rattle.report_rules.proofs.reading.read_lines.Goals as goal

pub returns-in-None : goal.returns-in-None
returns-in-None c =
    sym c.loop-text.invariant.reads
    ∙ turned c.lines_are_read_in_turn.ensures c.loop-text.state c.loop-text.number c.loop-text.rest.now c.in-Some.text.now c.in-Some.more.now None c.in-Some.ensures.line (sym c.in-None.is ∙ c.in_ok-step.ensures.step)

pub loop-text-preserved : goal.loop-text-preserved
loop-text-preserved c = record {
  reads =
      sym (turned c.lines_are_read_in_turn.ensures c.loop-text.state c.loop-text.number c.loop-text.rest.now c.in-Some.text.now c.in-Some.more.now (Some c.in-Some-2.next) c.in-Some.ensures.line (sym c.in-Some-2.is ∙ c.in_ok-step.ensures.step))
      ∙ c.loop-text.invariant.reads;
  names = subst (λ (led : Option State). IfSome led StateHasRoom) c.in-Some-2.is c.in_ok-step.ensures.room;
  room = omega (arith, c.loop-text.invariant.room, c.in-Some.ensures.len);
}

pub returns-then-not-is_empty : goal.returns-then-not-is_empty
returns-then-not-is_empty c =
    sym c.loop-text.invariant.reads ∙ left_over c.loop-text.state c.loop-text.number c.loop-text.rest.now c.in_default.ensures.last (sym c.is_empty.ensures ∙ c.if-not-is_empty.true)

pub returns-in-Some-report_of : goal.returns-in-Some-report_of
returns-in-Some-report_of c =
    sym c.loop-text.invariant.reads
    ∙ all_read c.loop-text.state c.loop-text.number c.loop-text.rest.now c.in_default.ensures.last (sym c.is_empty.ensures ∙ c.if-not-is_empty.false) (ap is_ended c.in-Some-report_of.ensures.whole)
    ∙ ap given c.in-Some-report_of.ensures.whole

pub returns : goal.returns
returns c =
    sym c.loop-text.invariant.reads ∙ not_ended c.loop-text.state c.loop-text.number c.loop-text.rest.now c.in_default.ensures.last c.in-None-report_of.ensures.missing
