use Rattle.std.proofs.Common.{◌≡◌, false, true, sym, ◌∙◌, arith}
use Rattle.std.specs.Str.{bytes_eq}
use Rattle.std.proofs.lemmas.Result.{err_from_is_err_and}
use Rattle.texts.specs.Grammar.{pieces}
use Rattle.checkpoint.proofs.LineLaws.{head_fault, head_more, head_other}
use Rattle.checkpoint.proofs.matches.behind_head.Goals as goal

pub returns-in_err-line-clause-fault : goal.returns-in_err-line-clause-fault
returns-in_err-line-clause-fault c =
    let p = err_from_is_err_and c.from_residual.result c.from_residual.ensures.1 in
    rw (p.1, p.2)
    (sym c.loop-own.invariant.reads
    ∙ head_fault c.loop-own.owed.now c.in-Some.own.now c.in-Some.more.now c.loop-own.at (pieces c.loop-own.rest.now) c.in_err-line.field-0.0 c.in-Some.ensures.line c.in_err-line.ensures.fault)

pub returns-then-ne-clause-fault : goal.returns-then-ne-clause-fault
returns-then-ne-clause-fault c =
    let other : bytes_eq c.in_ok-line.line.now c.in-Some.own.now ≡ false = grind arith in
    sym c.loop-own.invariant.reads
    ∙ head_other c.loop-own.owed.now c.in-Some.own.now c.in-Some.more.now c.loop-own.at (pieces c.loop-own.rest.now) (pieces c.in_ok-line.behind.now) c.in_ok-line.line.now c.in-Some.ensures.line c.in_ok-line.ensures.line other

pub loop-own-preserved : goal.loop-own-preserved
loop-own-preserved c =
    let same : bytes_eq c.in_ok-line.line.now c.in-Some.own.now ≡ true = grind arith in
    record {
      reads =
          sym (head_more c.loop-own.owed.now c.in-Some.own.now c.in-Some.more.now c.loop-own.at (pieces c.loop-own.rest.now) (pieces c.in_ok-line.behind.now) c.in_ok-line.line.now c.in-Some.ensures.line c.in_ok-line.ensures.line same)
          ∙ c.loop-own.invariant.reads;
      room = omega (arith, c.loop-own.invariant.room, c.in_ok-line.ensures.len);
    }
