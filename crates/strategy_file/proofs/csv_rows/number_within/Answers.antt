use Rattle.std.proofs.Common.{◌<◌, arith}
use Rattle.std.proofs.lemmas.Bool.{lt-leb}
use Rattle.std.specs.Str.Parse.{digits_value}
use Rattle.strategy_file.proofs.CsvRows.{too_great}
use Rattle.strategy_file.proofs.csv_rows.number_within.Goals as goal

pub returns-then-number-gt-LAST_STATE : goal.returns-then-number-gt-LAST_STATE
returns-then-number-gt-LAST_STATE c =
    let loop = c.loop-digit in
    let more = too_great loop.number loop.digit-index 65535 c.args.digits.now c.loop-digit-test.true loop.invariant.digits (rw c.from.ensures at c.if-number-gt-LAST_STATE.true) in
    let many : 65535 < digits_value 10 c.args.digits.now = omega (arith, more, loop.invariant.rest) in
    rw (lt-leb (digits_value 10 c.args.digits.now) 65535 many)
