-- The work of a block, over the observer of two sums.
use Rattle.std.specs.Prelude.{ℕ, List}
use Rattle.scan_model.specs.ScanTest.{ScanTest}
use Rattle.packed_sim.specs.declared.good.PackedGood.{PackedGood}
use Rattle.packed_sim.specs.declared.scratch.Scratch.{Scratch}
use Rattle.packed_sim.specs.PackedParts.{BelongsTo, IsScratchOf}
use Rattle.fault_effects.specs.declared.block_work.BlockWork.{BlockWork}
use Rattle.fault_effects.specs.declared.share.Share.{Share}
use Rattle.fault_effects.specs.FaultModel.{FaultModel, point_model}
use Rattle.fault_effects.specs.Shares.{Shares}
use Rattle.fault_effects.specs.SoundWork.{IsSound}
use Rattle.fault_effects.specs.ChainWork.{IsChainWork}
use Rattle.match_counts.specs.declared.block_count.BlockCount.{BlockCount}
use Rattle.match_counts.specs.declared.point_counts.PointCounts.{PointCounts}
use Rattle.match_counts.specs.Tables.{IsCount}

abbrev pub test_of : PointCounts → ScanTest
test_of o = o.parts.now

abbrev pub model_of : PointCounts → FaultModel
model_of o = point_model o.parts.now

abbrev pub block_of : PointCounts → ℕ
block_of o = o.block

abbrev pub is_clean : PointCounts → Scratch → Type 0
is_clean o s = IsScratchOf o.good.now s

abbrev pub is_ready : PointCounts → Type 0
is_ready o = BelongsTo o.parts.now o.good.now

abbrev pub IsSoundCount : BlockWork PointCounts → Type 0
IsSoundCount work = IsSound test_of model_of block_of is_clean is_ready work

abbrev pub good_of : PointCounts → PackedGood
good_of o = o.good.now

abbrev pub IsChainCount : BlockWork PointCounts → Type 0
IsChainCount work = IsChainWork test_of good_of block_of model_of is_ready work

-- the chosen suspects have their counts, and all counts are right
abbrev pub CountShares : BlockWork PointCounts → (ℕ → Type 0) → List (Share BlockCount) → List (Share BlockCount) → Type 0
CountShares work chosen old new = Shares (IsCount work.observer.now.rows.now) (model_of work.observer.now) (block_of work.observer.now) work.suspects.now chosen old new
