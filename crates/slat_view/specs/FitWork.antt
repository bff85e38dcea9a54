-- The work of a block, over the observer of the patterns that faults fit.
use Rattle.std.specs.Prelude.{ℕ, List}
use Rattle.scan_model.specs.ScanTest.{ScanTest}
use Rattle.packed_sim.specs.declared.good.PackedGood.{PackedGood}
use Rattle.packed_sim.specs.declared.scratch.Scratch.{Scratch}
use Rattle.packed_sim.specs.PackedParts.{BelongsTo, IsScratchOf}
use Rattle.fault_effects.specs.declared.block_work.BlockWork.{BlockWork}
use Rattle.fault_effects.specs.declared.share.Share.{Share}
use Rattle.fault_effects.specs.FaultModel.{FaultModel, point_model}
use Rattle.fault_effects.specs.Shares.{Shares}
use Rattle.fault_effects.specs.SoundWork.{IsSound}
use Rattle.fault_effects.specs.ChainWork.{IsChainWork}
use Rattle.slat_view.specs.declared.fits.Fits.{Fits}
use Rattle.slat_view.specs.Trials.{AreFitting}

abbrev pub test_of : Fits → ScanTest
test_of o = o.points.parts.now

abbrev pub good_of : Fits → PackedGood
good_of o = o.points.good.now

abbrev pub block_of : Fits → ℕ
block_of o = o.points.block

abbrev pub model_of : Fits → FaultModel
model_of o = point_model o.points.parts.now

abbrev pub is_clean : Fits → Scratch → Type 0
is_clean o s = IsScratchOf o.points.good.now s

abbrev pub is_ready : Fits → Type 0
is_ready o = BelongsTo o.points.parts.now o.points.good.now

abbrev pub IsSoundFit : BlockWork Fits → Type 0
IsSoundFit work = IsSound test_of model_of block_of is_clean is_ready work

abbrev pub IsChainFit : BlockWork Fits → Type 0
IsChainFit work = IsChainWork test_of good_of block_of model_of is_ready work

-- the chosen suspects have the lanes that they fit, and all shares are right
abbrev pub FitShares : BlockWork Fits → (ℕ → Type 0) → List (Share (List ℕ)) → List (Share (List ℕ)) → Type 0
FitShares work chosen old new = Shares (AreFitting work.observer.now.points.rows.now) (model_of work.observer.now) (block_of work.observer.now) work.suspects.now chosen old new
