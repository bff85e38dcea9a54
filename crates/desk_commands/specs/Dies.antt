-- A die under diagnosis with the simulation of its design.
use Rattle.std.specs.Prelude.{◌≡◌}
use Rattle.scan_model.specs.ScanTest.{ScanTest}
use Rattle.scan_model.specs.Response.{expected_rows}
use Rattle.packed_sim.specs.PackedParts.{BelongsTo}
use Rattle.diagnosis.specs.declared.simulation.Simulation.{Simulation}

-- its rows and its responses are those of the scan test
pub record IsSimulationOf (t : ScanTest) (made : Simulation) : Type 0 where
  pub good : BelongsTo t made.good
  pub expected : made.expected ≡ expected_rows t
