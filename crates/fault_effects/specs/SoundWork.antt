-- What is asked of the work of a block.
use Rattle.std.specs.Prelude.{◌≡◌, ℕ, List, All, Contains}
use Rattle.scan_model.specs.declared.fault.Fault.{Fault}
use Rattle.scan_model.specs.ScanTest.{ScanTest}
use Rattle.packed_sim.specs.declared.scratch.Scratch.{Scratch}
use Rattle.packed_sim.specs.PackedParts.{IsScratchOf}
use Rattle.fault_effects.specs.declared.block_work.BlockWork.{BlockWork}
use Rattle.fault_effects.specs.FaultModel.{FaultModel, IsFaultModel}
use Rattle.fault_effects.specs.Owners.{IsSuspectOf, AreOwners}

-- The observer is ready to look at the parts in the block, and at faults as they are there; the suspects are such faults, and each stands in the group of its owner.
pub record IsSound {O : Type 0} (test_of : O → ScanTest) (model_of : O → FaultModel) (block_of : O → ℕ) (is_clean : O → Scratch → Type 0) (is_ready : O → Type 0) (work : BlockWork O) : Type 0 where
  pub test : test_of work.observer.now ≡ work.parts.now
  pub block : block_of work.observer.now ≡ work.block
  pub ready : is_ready work.observer.now
  pub clean : (s : Scratch) → IsScratchOf work.good.now s → is_clean work.observer.now s
  pub faults : List Fault
  pub model : IsFaultModel work.parts.now faults (model_of work.observer.now)
  pub among : All (λ s. Contains faults s.fault) work.suspects.now
  pub suspects : All (IsSuspectOf work.parts.now) work.suspects.now
  pub owners : AreOwners work.parts.now work.suspects.now work.owners.now
