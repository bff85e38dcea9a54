-- The rows of the second frame, made of those of the first.
use Rattle.std.specs.Prelude.{◌≡◌, ℕ, ◌<◌, length, true}
use Rattle.scan_model.specs.declared.values.Tri.{Tri}
use Rattle.scan_model.specs.declared.values.Tri.TheVariants.{Unknown}
use Rattle.scan_model.specs.declared.circuit.Driver.{Driver}
use Rattle.scan_model.specs.declared.circuit.Driver.TheVariants.{Input, Flop, Gate}
use Rattle.scan_model.specs.declared.parts.PatternKind.TheVariants.{Capture}
use Rattle.scan_model.specs.Netlist.{Netlist, pin_at, driver_of}
use Rattle.scan_model.specs.ScanTest.{ScanTest}
use Rattle.scan_model.specs.NetValue.{values_of, nothing_forced}
use Rattle.scan_model.specs.Response.{data_pin}
use Rattle.lane_rows.specs.declared.block.Block.{Block}
use Rattle.lane_rows.specs.Sources.{lane_values}
use Rattle.lane_rows.specs.GoodRows.{AreLanesOf, pattern_of}
use Rattle.lane_rows.specs.Stimuli.{Stimuli, captures}
use Rattle.frame_rows.specs.Frames.{second_source}

-- what drives a net in a second frame, from the values that the nets have in the first
abbrev pub next_of : Netlist → (ℕ → Tri) → Driver → ℕ → Tri
next_of c first Input n = first n
next_of c first Flop n = first (pin_at c (data_pin c n)).net
next_of c first (Gate kind) n = Unknown

abbrev pub next_value : Netlist → (ℕ → Tri) → ℕ → Tri
next_value c first n = next_of c first (driver_of c n) n

-- the second frames of the patterns that capture
abbrev pub second_stimuli : ScanTest → Stimuli
second_stimuli t = record { count = length t.patterns; captures = captures t; source = second_source t }

-- The block has a row for each net: where a pattern captures, its value in the second frame.
pub record IsNextBlock (t : ScanTest) (b : ℕ) (x : Block) : Type 0 where
  pub len : length x.values ≡ length t.netlist.nets
  pub capture : AreLanesOf t b Capture x.capture
  pub value : (j n : ℕ) → j < 512 → n < length t.netlist.nets → captures t (pattern_of b j) ≡ true
      → lane_values x.values j n ≡ values_of t.netlist (second_source t (pattern_of b j)) nothing_forced n
