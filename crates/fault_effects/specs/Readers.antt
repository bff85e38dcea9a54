-- The gate that alone reads a net.
use Rattle.std.specs.Prelude.{◌≡◌, ℕ, ◌<◌, List, length, slice_index_or}
use Rattle.scan_model.specs.declared.circuit.Driver.TheVariants.{Gate}
use Rattle.scan_model.specs.declared.circuit.GateKind.{GateKind}
use Rattle.scan_model.specs.declared.circuit.PinPlace.TheVariants.{Operand}
use Rattle.scan_model.specs.Netlist.{Netlist, pin_at, driver_of}
use Rattle.scan_model.specs.ScanTest.{ScanTest}
use Rattle.fault_effects.specs.declared.readers.Reads.{Reads}
use Rattle.fault_effects.specs.declared.readers.Reads.TheVariants.{Never, Once}
use Rattle.fault_effects.specs.declared.readers.SoleReader.{SoleReader}

-- among the first pins, pin p alone reads net n
pub record IsOnlyPin (c : Netlist) (end n p : ℕ) : Type 0 where
  pub there : p < end
  pub net : (pin_at c p).net ≡ n
  pub one : (q : ℕ) → q < end → (pin_at c q).net ≡ n → q ≡ p

-- for each net whether none of the first pins reads it, or one alone
pub record AreReadsUpTo (c : Netlist) (end : ℕ) (reads : List Reads) : Type 0 where
  pub count : length reads ≡ length c.nets
  pub never : (n q : ℕ) → n < length reads → slice_index_or reads n Never ≡ Never → q < end → (pin_at c q).net ≡ n → ⊥
  pub once : (n p : ℕ) → slice_index_or reads n Never ≡ Once p → IsOnlyPin c end n p

-- for each net whether none of all pins reads it, or one alone
abbrev pub AreReads : ScanTest → List Reads → Type 0
AreReads t reads = AreReadsUpTo t.netlist (length t.netlist.pins) reads

-- pin p is an operand of gate g
pub record IsPinOf (t : ScanTest) (p g : ℕ) : Type 0 where
  pub there : g < length t.netlist.nets
  pub index : ℕ
  pub at : (pin_at t.netlist p).place ≡ Operand g index
  pub kind : GateKind
  pub drives : driver_of t.netlist g ≡ Gate kind

-- the pin is an operand of the gate, and alone reads net n
pub record IsSoleReader (t : ScanTest) (n : ℕ) (r : SoleReader) : Type 0 where
  pub operand : IsPinOf t r.pin r.gate
  pub only : IsOnlyPin t.netlist (length t.netlist.pins) n r.pin
