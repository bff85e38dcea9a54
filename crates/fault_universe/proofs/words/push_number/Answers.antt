use Rattle.std.proofs.Common.{rules, ℕ, List, ◌++◌, arith, refl, ap, append-nil, ◌∙◌}
use Rattle.std.specs.Prelude.{decimal}
use Rattle.std.proofs.lemmas.Fmt.{decimal_digit, length-decimal-le}
use Rattle.std.proofs.lemmas.Result.{on_ok_weaker}
use Rattle.fault_universe.proofs.SpacedWords.{behind_space}
use Rattle.fault_universe.proofs.words.push_number.Goals as goal

pub write_digits-digits-requires : goal.write_digits-digits-requires
write_digits-digits-requires c =
    let short = length-decimal-le 20 c.args.number (omega arith) (omega arith) (omega arith) in
    (omega arith, omega arith)

pub overflow_sub-digits : goal.overflow_sub-digits
overflow_sub-digits c =
    let short = length-decimal-le 20 c.args.number (omega arith) (omega arith) (omega arith) in
    omega arith

pub returns-then-number-lt10 : goal.returns-then-number-lt10
returns-then-number-lt10 c = on_ok_weaker c.append.result (λ added. added ∙ rw (decimal_digit c.args.number c.if-number-lt10.true) refl) c.append.ensures.ok

pub returns : goal.returns
returns c =
    let short = length-decimal-le 20 c.args.number (omega arith) (omega arith) (omega arith) in
    let done = c.write_digits-digits in
    on_ok_weaker c.append-2.result
    (λ added. added ∙ ap (λ (bs : List ℕ). c.args.line.now ++ bs) (behind_space 21 done.result done.new.buf (decimal c.args.number) (omega arith) (omega arith) (search rules) done.ensures.before (done.ensures.written ∙ append-nil (decimal c.args.number))))
    c.append-2.ensures.ok
