-- A chain loaded as under a fault of its shift path, over the fault-free rows of a block.
use Rattle.std.specs.Prelude.{◌≡◌, ℕ, ◌<◌, length, Bool, true, Some}
use Rattle.scan_model.specs.declared.values.Tri.{Tri}
use Rattle.scan_model.specs.declared.fault.CellKind.{CellKind}
use Rattle.scan_model.specs.declared.fault.CellKind.TheVariants.{Stuck0, Stuck1, SlowRise, SlowFall}
use Rattle.scan_model.specs.declared.fault.Fault.TheVariants as fault
use Rattle.scan_model.specs.declared.values.Tri.TheVariants.{Zero, One}
use Rattle.scan_model.specs.Values.{tri_and, tri_or}
use Rattle.scan_model.specs.ScanTest.{ScanTest, chain_at}
use Rattle.scan_model.specs.ChainShift.{loaded_at}
use Rattle.scan_model.specs.Loads.{load, cell}
use Rattle.scan_model.specs.NetValue.{net_value, source_of, nothing_forced}
use Rattle.lane_rows.specs.GoodRows.{pattern_of}
use Rattle.lane_rows.specs.Wiring.{Covers, LeadsUp}
use Rattle.packed_sim.specs.declared.good.PackedGood.{PackedGood}
use Rattle.packed_sim.specs.declared.scratch.Scratch.{Scratch}
use Rattle.packed_sim.specs.Propagation.{FitsScratch, IsOpen}
use Rattle.packed_sim.specs.PackedParts.{IsScratchIn, block_at, now_at, captures}

-- each cell holds what the fault after position c loads, in both kinds of pattern
abbrev pub HoldLoads : ScanTest → PackedGood → ℕ → ℕ → ℕ → CellKind → Scratch → Type 0
HoldLoads t g b h c K s = (i j : ℕ) → i < length (chain_at t h).cells → j < 512 → pattern_of b j < length t.patterns → now_at g s b j (cell t h i) ≡ loaded_at K c (load t (pattern_of b j) h) i

-- The chain is loaded; what reads its cells may still wait.
pub record IsOpenLoad (t : ScanTest) (g : PackedGood) (b h c : ℕ) (K : CellKind) (s : Scratch) : Type 0 where
  pub fits : FitsScratch t.netlist g.wiring.order.items (block_at g b).values s
  pub cells : HoldLoads t g b h c K s
  pub still_open : (live : ℕ → Bool) (j : ℕ) → j < 512 → Covers t.netlist g.wiring.order.items g.wiring.sinks live → LeadsUp t.netlist live → captures t (pattern_of b j) ≡ true
      → IsOpen t.netlist g.wiring.order.items (block_at g b).values (source_of t (Some (fault.Cell h c K)) (pattern_of b j)) nothing_forced live j s

-- The chain is loaded, and in patterns that capture each net that leads to a point has its value under the fault.
pub record IsLoaded (t : ScanTest) (g : PackedGood) (b h c : ℕ) (K : CellKind) (s : Scratch) : Type 0 where
  pub inside : IsScratchIn g s
  pub cells : HoldLoads t g b h c K s
  pub nets : (live : ℕ → Bool) → Covers t.netlist g.wiring.order.items g.wiring.sinks live → LeadsUp t.netlist live
      → (n j : ℕ) → n < length t.netlist.nets → live n ≡ true → j < 512 → captures t (pattern_of b j) ≡ true → now_at g s b j n ≡ net_value t (Some (fault.Cell h c K)) (pattern_of b j) n

-- the value of a position after it has passed the fault, from its own and that of the position above
abbrev pub passed_value : CellKind → Tri → Tri → Tri
passed_value Stuck0 here next = Zero
passed_value Stuck1 here next = One
passed_value SlowRise here next = tri_and here next
passed_value SlowFall here next = tri_or here next
