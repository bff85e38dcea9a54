-- The values at outputs and cells, from those of all nets and what is forced.
use Rattle.std.specs.Prelude.{ℕ, ◌<◌, List, [], length, map, Option, slice_index_or}
use Rattle.std.specs.List.{range_with_len}
use Rattle.scan_model.specs.declared.values.Tri.{Tri}
use Rattle.scan_model.specs.declared.parts.Chain.{Chain}
use Rattle.scan_model.specs.declared.parts.Point.{Point}
use Rattle.scan_model.specs.declared.parts.Point.TheVariants.{Output, Cell}
use Rattle.scan_model.specs.declared.fault.Fault.{Fault}
use Rattle.scan_model.specs.Netlist.{Netlist}
use Rattle.scan_model.specs.ChainShift.{value_at}
use Rattle.scan_model.specs.Faults.{forced_net, forced_pin}
use Rattle.scan_model.specs.NetValue.{Forced, seen, values_of, nothing_forced}
use Rattle.scan_model.specs.Response.{output_pin, data_pin}
use Rattle.scan_model.specs.ScanTest.{ScanTest, points_of}
use Rattle.good_sim.specs.declared.chains.Direction.TheVariants.{Out}
use Rattle.good_sim.specs.Shifts.{shifted_rows}

-- what a fault forces, over the fault-free values that a source gives
abbrev pub forced_over : Netlist → (ℕ → Tri) → Option Fault → Forced
forced_over c source f = record { net = λ n. forced_net (values_of c source nothing_forced) f n; pin = λ p. forced_pin f p }

-- what the outputs show, and what cells capture
abbrev pub outputs_over : Netlist → Forced → (ℕ → Tri) → List Tri
outputs_over c forced value = map (λ k. seen c forced value (output_pin c k)) (range_with_len 0 (length c.outputs))

abbrev pub captured_over : Netlist → Forced → (ℕ → Tri) → List ℕ → List Tri
captured_over c forced value cells = map (λ n. seen c forced value (data_pin c n)) cells

abbrev pub captured_rows_over : Netlist → Forced → (ℕ → Tri) → List Chain → List (List Tri)
captured_rows_over c forced value chains = map (λ h. captured_over c forced value h.cells) chains

-- what a point shows, where the outputs' values and the unloaded rows are known
abbrev pub shown_at : List Tri → List (List Tri) → Point → Tri
shown_at outputs rows (Output k) = value_at outputs k
shown_at outputs rows (Cell h i) = value_at (slice_index_or rows h []) i

-- what the points show, where the chains unload past a fault what they hold
abbrev pub shown_past : ScanTest → Option Fault → List Tri → List (List Tri) → List Tri
shown_past t f outputs held = map (shown_at outputs (shifted_rows Out f held)) (points_of t)

-- the point has its value in them
abbrev pub HasPoint : List Tri → List (List Tri) → Point → Type 0
HasPoint outputs rows (Output k) = k < length outputs
HasPoint outputs rows (Cell h i) = (h < length rows) × (i < length (slice_index_or rows h []))
