use Rattle.std.proofs.Common.{◌≡◌, ◌+◌, ◌-◌, ◌*◌, ◌≤◌, drop, fold}
use Rattle.scan_model.specs.Words.{digits_number}
use Rattle.desk_heads.specs.Heads.{body_limit}
use Rattle.desk_heads.proofs.head.values.number_within_limit.Given as goal

abbrev pub invariant-loop-digit : goal.invariant-loop-digit
invariant-loop-digit l = record {
  within : l.number ≤ body_limit;
  so_far : fold (λ n b. n * 10 + (b - 48)) l.number (drop l.digit-index l.digits) ≡ digits_number l.digits;
}
