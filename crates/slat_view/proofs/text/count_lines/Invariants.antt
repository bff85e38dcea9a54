use Rattle.std.proofs.Common.{map, take}
use Rattle.slat_view.specs.SlatText.{count_line, AddsText}
use Rattle.slat_view.proofs.text.count_lines.Given as goal

abbrev pub invariant-loop-i : goal.invariant-loop-i
invariant-loop-i l = AddsText (map count_line (take l.i l.rows)) l.initial.text l.text
