use Rattle.std.proofs.Common.{◌≡◌, ◌≤◌, true, drop}
use Rattle.std.specs.Char.{is_ascii_digit}
use Rattle.std.specs.List.{list_all}
use Rattle.std.specs.Str.Parse.{digits_value, digits_value_after}
use Rattle.strategy_file.proofs.csv_rows.number_within.Given as goal

abbrev pub invariant-loop-digit : goal.invariant-loop-digit
invariant-loop-digit l = record {
  rest : digits_value 10 l.digits ≡ digits_value_after 10 l.number (drop l.digit-index l.digits);
  few : l.number ≤ 65535;
  digits : list_all is_ascii_digit (drop l.digit-index l.digits) ≡ true;
}
