-- What a compact point shows: an output its own value, and a channel in a cycle the XOR of the cells that its chains show.
use Rattle.std.specs.Prelude.{ℕ, ◌-◌, nat_lt, cond, List, [], ◌∷◌, length, map, flat_map, Option, None}
use Rattle.std.specs.List.{range_with_len}
use Rattle.scan_model.specs.declared.values.Tri.{Tri}
use Rattle.scan_model.specs.declared.fault.Fault.{Fault}
use Rattle.scan_model.specs.declared.parts.Point.{Point}
use Rattle.scan_model.specs.declared.parts.Point.TheVariants.{Output, Cell}
use Rattle.scan_model.specs.Values.{xor_of}
use Rattle.scan_model.specs.ScanTest.{ScanTest}
use Rattle.scan_model.specs.Response.{observed}
use Rattle.compact_points.specs.Channels.{Compactor, channel_at, chain_length}

-- the cell that chain h shows in unload cycle u, and none where the chain isn't longer
abbrev pub cell_shown : ScanTest → ℕ → ℕ → List Point
cell_shown t u h = cond (nat_lt u (chain_length t h)) (Cell h (chain_length t h - 1 - u) ∷ []) []

-- the cells that some chains show in cycle u
abbrev pub cells_shown : ScanTest → ℕ → List ℕ → List Point
cells_shown t u chains = flat_map (cell_shown t u) chains

-- the points of the test upstream of a compact point
abbrev pub members : ScanTest → Compactor → Point → List Point
members t c (Output k) = Output k ∷ []
members t c (Cell x u) = cells_shown t u (channel_at c.channels x).chains

-- the value under the fault, or without one: an output's own, and at a channel the XOR of its members'
abbrev pub compact_value : ScanTest → Compactor → Option Fault → ℕ → Point → Tri
compact_value t c fault w (Output k) = observed t fault w (Output k)
compact_value t c fault w (Cell x u) = xor_of (map (observed t fault w) (cells_shown t u (channel_at c.channels x).chains))

-- a value for each compact point
abbrev pub compact_response : ScanTest → Compactor → Option Fault → ℕ → List Tri
compact_response t c fault w = map (compact_value t c fault w) c.points

-- the fault-free values of all patterns: a row for each, with a value for each compact point
abbrev pub compact_rows : ScanTest → Compactor → List (List Tri)
compact_rows t c = map (compact_response t c None) (range_with_len 0 (length t.patterns))
