use Rattle.std.proofs.Common.{rules, ℕ, ◌<◌, ◌≤◌, ◌^◌, length, arith}
use Rattle.std.specs.Prelude.{decimal}
use Rattle.std.proofs.lemmas.Fmt.{length-decimal-le}
use Rattle.report_lines.proofs.lines.write_labelled.Goals as goal

-- a number of 64 bits has at most twenty digits
short : (n : ℕ) → n < 2 ^ 64 → length (decimal n) ≤ 20
short n small = length-decimal-le 20 n (omega arith) (omega arith) small

pub write_digits-digits-requires : goal.write_digits-digits-requires
write_digits-digits-requires c =
    let few = short c.args.number (search rules) in
    (omega arith, omega arith)

pub overflow_sub-start : goal.overflow_sub-start
overflow_sub-start c =
    let few = short c.args.number (search rules) in
    omega arith

pub copy_from_slice-requires : goal.copy_from_slice-requires
copy_from_slice-requires c =
    let few = short c.args.number (search rules) in
    omega arith

pub returns-clause-start : goal.returns-clause-start
returns-clause-start c =
    let few = short c.args.number (search rules) in
    (omega arith, omega arith)
