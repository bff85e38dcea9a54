use Rattle.std.proofs.Common.{◌≡◌, ℕ, ◌<◌, false}
use Rattle.scan_model.specs.declared.values.Tri.TheVariants.{Unknown}
use Rattle.scan_model.specs.Netlist.{is_gate_net}
use Rattle.lane_rows.specs.Sources.{lane_values}
use Rattle.lane_rows.proofs.sources.write_unknown.Given as goal

abbrev pub invariant-loop-n : goal.invariant-loop-n
invariant-loop-n l = (j m : ℕ) → j < 512 → m < l.n → is_gate_net l.nets m ≡ false → lane_values l.rows j m ≡ Unknown
