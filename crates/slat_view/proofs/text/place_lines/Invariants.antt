use Rattle.std.proofs.Common.{map, take}
use Rattle.slat_view.specs.SlatText.{place_line, AddsText}
use Rattle.slat_view.proofs.text.place_lines.Given as goal

abbrev pub invariant-loop-i : goal.invariant-loop-i
invariant-loop-i l = AddsText (map (place_line l.parts) (take l.i l.places)) l.initial.text l.text
