use Rattle.std.proofs.Common.{◌≡◌, ◌+◌, ◌-◌, ◌*◌, ◌^◌, ◌<◌, fold, drop}
use Rattle.scan_model.specs.Words.{digits_number}
use Rattle.text_parts.proofs.numbers.digits_number.Given as goal

abbrev pub invariant-loop-b : goal.invariant-loop-b
invariant-loop-b l = record {
  small : l.n < 2 ^ 32;
  rest : fold (λ n b. n * 10 + (b - 48)) l.n (drop l.b-index l.word) ≡ digits_number l.word;
}
