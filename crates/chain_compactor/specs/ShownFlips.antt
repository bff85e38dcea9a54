-- What a scratch shows at the points of a test, and a pin that is stuck.
use Rattle.std.specs.Prelude.{◌≡◌, ℕ, ◌<◌, length, true}
use Rattle.scan_model.specs.declared.fault.CellKind.{CellKind}
use Rattle.scan_model.specs.ScanTest.{ScanTest, points_of}
use Rattle.scan_model.specs.Masks.{flipped}
use Rattle.lane_rows.specs.GoodRows.{pattern_of}
use Rattle.packed_sim.specs.declared.good.PackedGood.{PackedGood}
use Rattle.packed_sim.specs.declared.scratch.Scratch.{Scratch}
use Rattle.packed_sim.specs.PackedParts.{BelongsTo, IsScratchIn, captures, now_at, observed_at}
use Rattle.packed_sim.specs.ChainLoads.{IsLoaded}

-- in block b the scratch shows a flip of net n
pub record ShowsFlip (t : ScanTest) (g : PackedGood) (b n : ℕ) (s : Scratch) : Type 0 where
  pub belongs : BelongsTo t g
  pub block : b < length g.rows
  pub inside : IsScratchIn g s
  pub values : (k j : ℕ) → k < length (points_of t) → j < 512 → captures t (pattern_of b j) ≡ true → now_at g s b j (observed_at t k) ≡ flipped t (pattern_of b j) n (observed_at t k)

-- the pin is one of the test, over the fault-free rows of block b
pub record IsStuckIn (t : ScanTest) (g : PackedGood) (b p : ℕ) : Type 0 where
  pub belongs : BelongsTo t g
  pub block : b < length g.rows
  pub pin : p < length t.netlist.pins

-- in block b the scratch has chain h loaded as under a fault after position c
pub record ShowsCell (t : ScanTest) (g : PackedGood) (b h c : ℕ) (K : CellKind) (s : Scratch) : Type 0 where
  pub belongs : BelongsTo t g
  pub block : b < length g.rows
  pub chain : h < length t.chains
  pub loaded : IsLoaded t g b h c K s
