-- The points of a compactor.
use Rattle.std.specs.Prelude.{◌<◌, length}
use Rattle.scan_model.specs.declared.parts.Point.{Point}
use Rattle.scan_model.specs.declared.parts.Point.TheVariants.{Output, Cell}
use Rattle.scan_model.specs.ScanTest.{ScanTest}
use Rattle.compact_points.specs.Channels.{Compactor}

-- an output of the test or a channel of the compactor
abbrev pub IsThere : ScanTest → Compactor → Point → Type 0
IsThere t c (Output k) = k < length t.netlist.outputs
IsThere t c (Cell x u) = x < length c.channels
