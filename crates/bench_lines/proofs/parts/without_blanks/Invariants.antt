use Rattle.std.proofs.Common.{◌≡◌, ◌≤◌, length}
use Rattle.scan_model.specs.Lines.{has_refused_byte}
use Rattle.bench_lines.specs.Parts.{line_tokens}
use Rattle.bench_lines.proofs.parts.without_blanks.Given as goal

abbrev pub invariant-loop-rest : goal.invariant-loop-rest
invariant-loop-rest l = record {
  same : line_tokens l.rest ≡ line_tokens l.line;
  refused : has_refused_byte l.rest ≡ has_refused_byte l.line;
  within : length l.rest ≤ length l.line;
}

abbrev pub decreases-loop-rest : goal.decreases-loop-rest
decreases-loop-rest l = length l.rest
