-- Marks on the fan-in of the failing bits of the second frame.
use Rattle.std.specs.Prelude.{◌≡◌, ℕ, ◌<◌, List, length, Bool, true, slice_index_or}
use Rattle.scan_model.specs.declared.values.Tri.{Tri}
use Rattle.scan_model.specs.declared.fault.Fault.{Fault}
use Rattle.scan_model.specs.declared.fault.Fault.TheVariants as fault
use Rattle.scan_model.specs.declared.logs.LogFacts.{LogFacts}
use Rattle.scan_model.specs.Netlist.{pin_at}
use Rattle.scan_model.specs.Cone.{in_fan_in}
use Rattle.scan_model.specs.Marks.{is_marked}
use Rattle.scan_model.specs.ScanTest.{ScanTest, points_of}
use Rattle.scan_model.specs.Coverage.{bit_of}
use Rattle.scan_model.specs.Classes.{is_failing, class_with}
use Rattle.packed_sim.specs.PackedParts.{observed_at}
use Rattle.two_frame.specs.TwoFrame.{frame_class}

-- where point k fails in pattern w, its net has a mark
abbrev pub IsSeen : List Bool → List ℕ → List (List Tri) → List LogFacts → ℕ → ℕ → ℕ → Type 0
IsSeen marks nets expected logs patterns w k = w < patterns → is_failing (class_with expected logs (bit_of w k)) ≡ true → is_marked marks (slice_index_or nets k 0) ≡ true

-- each net that leads to that of a failing bit has a mark
abbrev pub AreReaching : ScanTest → List LogFacts → List Bool → Type 0
AreReaching t logs marks = (w k n : ℕ) → w < length t.patterns → k < length (points_of t) → n < length t.netlist.nets
    → is_failing (frame_class t logs (bit_of w k)) ≡ true → in_fan_in t.netlist n (observed_at t k) ≡ true → is_marked marks n ≡ true

-- the net at the fault's site has a mark
abbrev pub reaches : ScanTest → List Bool → Fault → Bool
reaches t marks (fault.Stem n v) = is_marked marks n
reaches t marks (fault.Branch p v) = is_marked marks (pin_at t.netlist p).net
reaches t marks (fault.Bridge a b kind) = true
reaches t marks (fault.Cell h c kind) = true
