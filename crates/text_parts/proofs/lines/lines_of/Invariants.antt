use Rattle.std.proofs.Common.{◌≡◌, ◌++◌, length}
use Rattle.scan_model.specs.Lines.{text_lines}
use Rattle.text_parts.specs.Views.{nows}
use Rattle.text_parts.proofs.lines.lines_of.Given as goal

abbrev pub invariant-loop-line : goal.invariant-loop-line
invariant-loop-line l = nows l.lines.items ++ text_lines l.rest ≡ text_lines l.bytes

abbrev pub decreases-loop-line : goal.decreases-loop-line
decreases-loop-line l = length l.rest
