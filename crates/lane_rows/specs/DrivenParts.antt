-- The parts of a pattern that drive nets.
use Rattle.std.specs.Prelude.{⊤, ℕ, ◌<◌, ◌≤◌, List, [], length, slice_index_or}
use Rattle.scan_model.specs.declared.values.Tri.{Tri}
use Rattle.scan_model.specs.declared.parts.Pattern.{Pattern}
use Rattle.scan_model.specs.ChainShift.{value_at}
use Rattle.scan_model.specs.ScanTest.{no_pattern}
use Rattle.lane_rows.specs.declared.bit_planes.DrivenPart.{DrivenPart}
use Rattle.lane_rows.specs.declared.bit_planes.DrivenPart.TheVariants.{Inputs, Load}

-- the values, the first net's first
abbrev pub part_values : DrivenPart → Pattern → List Tri
part_values Inputs p = p.inputs
part_values (Load chain) p = slice_index_or p.loads chain []

-- what pattern j drives net i of the part with; X past the patterns
abbrev pub driven_value : DrivenPart → List Pattern → ℕ → ℕ → Tri
driven_value part patterns j i = value_at (part_values part (slice_index_or patterns j no_pattern)) i

-- the pattern has the part
abbrev pub HasPart : DrivenPart → Pattern → Type 0
HasPart Inputs p = ⊤
HasPart (Load chain) p = chain < length p.loads

-- it has no more values than there are nets
pub record FitsPart (part : DrivenPart) (nets : ℕ) (p : Pattern) : Type 0 where
  pub has : HasPart part p
  pub within : length (part_values part p) ≤ nets
