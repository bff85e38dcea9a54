use Rattle.std.proofs.Common.{◌≡◌, take}
use Rattle.scan_model.specs.Lines.{has_refused_byte}
use Rattle.text_parts.proofs.lines.has_refused_byte.Given as goal

abbrev pub invariant-loop-b : goal.invariant-loop-b
invariant-loop-b l = l.found ≡ has_refused_byte (take l.b-index l.line)
