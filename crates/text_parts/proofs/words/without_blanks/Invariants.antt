use Rattle.std.proofs.Common.{◌≡◌, ◌≤◌, length}
use Rattle.scan_model.specs.Words.{words}
use Rattle.text_parts.proofs.words.without_blanks.Given as goal

abbrev pub invariant-loop-rest : goal.invariant-loop-rest
invariant-loop-rest l = record {
  same : words l.rest ≡ words l.line;
  within : length l.rest ≤ length l.line;
}

abbrev pub decreases-loop-rest : goal.decreases-loop-rest
decreases-loop-rest l = length l.rest
