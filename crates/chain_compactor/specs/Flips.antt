-- Where one flip of a net shows through a compactor, and a pin that goes straight to a point.
use Rattle.std.specs.Prelude.{ℕ, Bool, if◌then◌else◌, List, map}
use Rattle.scan_model.specs.declared.values.Tri.{Tri}
use Rattle.scan_model.specs.declared.fault.Fault.{Fault}
use Rattle.scan_model.specs.declared.fault.Fault.TheVariants as fault
use Rattle.scan_model.specs.declared.parts.Point.{Point}
use Rattle.scan_model.specs.Values.{are_opposite, xor_of}
use Rattle.scan_model.specs.Faults.{stuck_value}
use Rattle.scan_model.specs.Netlist.{pin_at}
use Rattle.scan_model.specs.ScanTest.{ScanTest}
use Rattle.scan_model.specs.NetValue.{good_value}
use Rattle.scan_model.specs.Suspect.{observed_net}
use Rattle.scan_model.specs.Masks.{flipped, place_is_point}
use Rattle.fail_logs.specs.FrameFacts.{point_among}
use Rattle.compact_points.specs.Channels.{Compactor}
use Rattle.compact_points.specs.Compaction.{members}

-- the XOR of what some points show is the opposite of the fault-free one, where this is what each shows in pattern w
abbrev pub differs : ScanTest → ℕ → List Point → (Point → Tri) → Bool
differs t w ps shows = are_opposite (xor_of (map (λ p. good_value t w (observed_net t p)) ps)) (xor_of (map shows ps))

-- one flip of net n, over fault-free values, shows at the XOR of these points
abbrev pub flip_differs : ScanTest → ℕ → ℕ → List Point → Bool
flip_differs t w n ps = differs t w ps (λ p. flipped t w n (observed_net t p))

-- what a point shows where the fault's pin goes straight to it, and else the fault-free value
abbrev pub straight_value : ScanTest → Fault → ℕ → Point → Tri
straight_value t (fault.Stem n v) w p = good_value t w (observed_net t p)
straight_value t (fault.Branch q v) w p = if place_is_point t (pin_at t.netlist q).place p then stuck_value v else good_value t w (observed_net t p)
straight_value t (fault.Bridge a b kind) w p = good_value t w (observed_net t p)
straight_value t (fault.Cell h i kind) w p = good_value t w (observed_net t p)

-- the points upstream of compact point q
abbrev pub members_at : ScanTest → Compactor → ℕ → List Point
members_at t c q = members t c (point_among c.points q)

-- one flip of net n shows at compact point q
abbrev pub flip_shows_through : ScanTest → Compactor → ℕ → ℕ → ℕ → Bool
flip_shows_through t c w n q = flip_differs t w n (members_at t c q)

-- the fault's pin goes straight to a point upstream of compact point q, and that shows there
abbrev pub straight_through : ScanTest → Compactor → Fault → ℕ → ℕ → Bool
straight_through t c f w q = differs t w (members_at t c q) (straight_value t f w)
