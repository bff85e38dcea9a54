use Rattle.std.proofs.Common.{◌≡◌, ◌<◌, ◌^◌, Some, true, take, drop, arith, length-take, sym, ap, ◌∙◌, rules}
use Rattle.scan_model.specs.Words.{is_numeral, digits_number}
use Rattle.fail_logs.specs.PlainLines.{EndsWord}
use Rattle.fail_logs.proofs.PlainWords.{begins, digits_plain, filled_numeral, number_is}
use Rattle.fail_logs.proofs.plain.plain_number.Goals as goal

pub is_numeral-requires : goal.is_numeral-requires
is_numeral-requires c = rw c.split_at.ensures.front c.front_digits-end.ensures.digits

pub returns : goal.returns
returns c =
    let n = c.front_digits-end.result.0 in
    let line = c.args.line.now in
    let digits = c.front_digits-end.ensures in
    let numeral : is_numeral (take n line) ≡ true = rw (sym c.split_at.ensures.front) (search rules) in
    let some : 0 < n = omega (arith, filled_numeral (take n line) numeral, length-take n line) in
    let end : EndsWord (drop n line) c.in_ok-after.after.now = rw c.split_at.ensures.back at c.in_ok-after.ensures in
    let small : digits_number (take n line) < 2 ^ 32 = rw (sym digits.number) digits.small in
    (take n line, number_is (take n line) numeral small ∙ ap Some (sym digits.number), begins line c.in_ok-after.after.now n some digits.within (digits_plain (take n line) digits.digits) end)
