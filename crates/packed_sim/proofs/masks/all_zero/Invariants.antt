use Rattle.std.proofs.Common.{◌≡◌, ℕ, ◌<◌, ◌&&◌, take}
use Rattle.std.specs.List.{list_all}
use Rattle.scan_model.specs.Values.{is_zero}
use Rattle.lane_rows.specs.Lanes.{lane}
use Rattle.lane_rows.specs.Sources.{lane_values}
use Rattle.packed_sim.proofs.masks.all_zero.Given as goal

abbrev pub invariant-loop-pin : goal.invariant-loop-pin
invariant-loop-pin l = (j : ℕ) → j < 512 → lane l.all j ≡ (lane l.fn.lanes j && list_all (λ pin. is_zero (lane_values l.values j pin.net)) (take l.pin-index l.pins))
