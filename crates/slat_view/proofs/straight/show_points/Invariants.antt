use Rattle.std.proofs.Common.{◌≡◌, ℕ, ◌+◌, Bool, take}
use Rattle.std.specs.Prelude.{sum_by}
use Rattle.scan_model.specs.Netlist.{pin_at}
use Rattle.log_rows.specs.declared.side.Side.{Side}
use Rattle.match_counts.specs.Flips.{tallied, list_on}
use Rattle.slat_view.specs.StraightPins.{shown_at}
use Rattle.slat_view.proofs.straight.show_points.Given as goal

abbrev pub invariant-loop-point : goal.invariant-loop-point
invariant-loop-point l = (side : Side) (m : ℕ → Bool) → tallied (list_on side l.shown) m ≡ tallied (list_on side l.initial.shown) m + sum_by (shown_at l.parts l.rows side (pin_at l.parts.netlist l.pin).place l.mask m) (take l.point-index l.points)
