-- Flips of pins over the values of a circuit under any source.
use Rattle.std.specs.Prelude.{ℕ, Bool, ◌||◌}
use Rattle.scan_model.specs.declared.values.Tri.{Tri}
use Rattle.scan_model.specs.declared.fault.Fault.TheVariants.{Branch}
use Rattle.scan_model.specs.declared.fault.Stuck.TheVariants.{Zero, One}
use Rattle.scan_model.specs.Netlist.{Netlist}
use Rattle.scan_model.specs.Masks.{mask_from}

-- the pin flips gate g, held at 0 or at 1
abbrev pub pin_flips_from : Netlist → (ℕ → Tri) → ℕ → ℕ → Bool
pin_flips_from c s p g = mask_from c s (Branch p Zero) g || mask_from c s (Branch p One) g
