use Rattle.std.proofs.Common.{◌≡◌, ◌≤◌, take, true}
use Rattle.std.specs.List.{list_all}
use Rattle.scan_model.specs.Words.{is_digit, digits_number}
use Rattle.fail_logs.proofs.plain.front_digits.Given as goal

abbrev pub invariant-loop-i : goal.invariant-loop-i
invariant-loop-i l = record {
  small : l.number ≤ 999999999;
  digits : list_all is_digit (take l.i l.line) ≡ true;
  number : l.number ≡ digits_number (take l.i l.line);
}
