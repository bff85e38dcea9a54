-- What faults of shift paths ask of the work of a block.
use Rattle.std.specs.Prelude.{◌≡◌, ℕ}
use Rattle.scan_model.specs.ScanTest.{ScanTest}
use Rattle.packed_sim.specs.declared.good.PackedGood.{PackedGood}
use Rattle.packed_sim.specs.PackedParts.{BelongsTo}
use Rattle.fault_effects.specs.declared.block_work.BlockWork.{BlockWork}
use Rattle.fault_effects.specs.FaultModel.{FaultModel, IsChainModel}

-- The packed rows are those of the parts, the observer is ready to look at the same rows in the same block, and its places tell faults of shift paths apart by the points that they see.
pub record IsChainWork {O : Type 0} (test_of : O → ScanTest) (good_of : O → PackedGood) (block_of : O → ℕ) (model_of : O → FaultModel) (is_ready : O → Type 0) (work : BlockWork O) : Type 0 where
  pub test : test_of work.observer.now ≡ work.parts.now
  pub good : good_of work.observer.now ≡ work.good.now
  pub block : block_of work.observer.now ≡ work.block
  pub ready : is_ready work.observer.now
  pub belongs : BelongsTo work.parts.now work.good.now
  pub chains : IsChainModel work.parts.now (model_of work.observer.now)
