-- The two frames of a pattern: the values of the second, with a slow fault or without one, and the
-- nets that change. A slow fault is written as the stem or the branch that it slows: stuck at 0 is
-- slow to rise, stuck at 1 is slow to fall.
-- One site: slowed, changes. Second frame: second_source, frame_seen, second_value. Changes:
-- net_changes.
use Rattle.std.specs.Prelude.{ℕ, suc, map, length, Option, Some, None, Bool, cond, ◌==◌, ◌&&◌}
use Rattle.scan_model.specs.declared.values.Tri.{Tri}
use Rattle.scan_model.specs.declared.values.Tri.TheVariants.{Unknown}
use Rattle.scan_model.specs.declared.circuit.Driver.{Driver}
use Rattle.scan_model.specs.declared.circuit.Driver.TheVariants.{Input, Flop, Gate}
use Rattle.scan_model.specs.declared.fault.Stuck.{Stuck}
use Rattle.scan_model.specs.declared.fault.Stuck.TheVariants as stuck
use Rattle.scan_model.specs.declared.fault.Fault.{Fault}
use Rattle.scan_model.specs.declared.fault.Fault.TheVariants as fault
use Rattle.scan_model.specs.Values.{is_zero, is_one, tri_and, tri_or, gate_value}
use Rattle.scan_model.specs.Netlist.{pin_at, driver_of, operands}
use Rattle.scan_model.specs.Walks.{along}
use Rattle.scan_model.specs.ScanTest.{ScanTest}
use Rattle.scan_model.specs.NetValue.{source_of, good_value}
use Rattle.scan_model.specs.Response.{data_pin}

-- ---- one site

-- what a slow site has, from its value in the first frame and the one that comes
abbrev pub slowed : Stuck → Tri → Tri → Tri
slowed stuck.Zero first now = tri_and first now
slowed stuck.One first now = tri_or first now

-- from this value in the first frame and this one in the second the site would rise, or fall
abbrev pub changes : Stuck → Tri → Tri → Bool
changes stuck.Zero first now = is_zero first && is_one now
changes stuck.One first now = is_one first && is_zero now

-- ---- the frames

-- what drives the second frame: inputs hold, and each flop has what its data pin saw in the first
abbrev pub second_of : ScanTest → ℕ → Driver → ℕ → Tri
second_of t w Input n = source_of t None w n
second_of t w Flop n = good_value t w (pin_at t.netlist (data_pin t.netlist n)).net
second_of t w (Gate kind) n = Unknown

abbrev pub second_source : ScanTest → ℕ → ℕ → Tri
second_source t w n = second_of t w (driver_of t.netlist n) n

-- what pin p sees, from the value of its net in the first frame and now
abbrev pub slow_pin : Option Fault → ℕ → Tri → Tri → Tri
slow_pin None p first now = now
slow_pin (Some (fault.Stem m v)) p first now = now
slow_pin (Some (fault.Branch q v)) p first now = cond (p == q) (slowed v first now) now
slow_pin (Some (fault.Bridge a b kind)) p first now = now
slow_pin (Some (fault.Cell h c kind)) p first now = now

-- what net n has, from its value in the first frame and what drives it now
abbrev pub slow_stem : Option Fault → ℕ → Tri → Tri → Tri
slow_stem None n first now = now
slow_stem (Some (fault.Stem m v)) n first now = cond (n == m) (slowed v first now) now
slow_stem (Some (fault.Branch q v)) n first now = now
slow_stem (Some (fault.Bridge a b kind)) n first now = now
slow_stem (Some (fault.Cell h c kind)) n first now = now

-- what pin p sees in the second frame, where the nets have these values
abbrev pub frame_seen : ScanTest → Option Fault → ℕ → (ℕ → Tri) → ℕ → Tri
frame_seen t f w value p = slow_pin f p (good_value t w (pin_at t.netlist p).net) (value (pin_at t.netlist p).net)

-- what drives net n: the source at an input and at a flop, and at a gate its value over what its pins see
abbrev pub second_driven : ScanTest → Option Fault → ℕ → Driver → (ℕ → Tri) → ℕ → Tri
second_driven t f w Input value n = second_source t w n
second_driven t f w Flop value n = second_source t w n
second_driven t f w (Gate kind) value n = gate_value kind (map (frame_seen t f w value) (operands t.netlist n))

-- the value of net n, from those of the nets that it reads
abbrev pub second_node : ScanTest → Option Fault → ℕ → ℕ → (ℕ → Tri) → Tri
second_node t f w n value = slow_stem f n (good_value t w n) (second_driven t f w (driver_of t.netlist n) value n)

-- the value of a net in the second frame, with a slow fault or without one
unfoldable pub second_value : ScanTest → Option Fault → ℕ → ℕ → Tri
second_value t f w n = along Unknown (second_node t f w) (suc (length t.netlist.nets)) n

-- ---- changes

-- net n makes the transition in pattern w, without a fault
abbrev pub net_changes : ScanTest → Stuck → ℕ → ℕ → Bool
net_changes t v w n = changes v (good_value t w n) (second_value t None w n)
