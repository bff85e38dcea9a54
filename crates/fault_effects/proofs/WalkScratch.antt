-- The scratch of a walk, wherever the walk stands.
use Rattle.std.proofs.Common.{ℕ, Option, Some, None}
use Rattle.scan_model.specs.declared.fault.CellKind.{CellKind}
use Rattle.scan_model.specs.ScanTest.{ScanTest}
use Rattle.packed_sim.specs.declared.good.PackedGood.{PackedGood}
use Rattle.packed_sim.specs.declared.scratch.Scratch.{Scratch}
use Rattle.packed_sim.specs.PackedParts.{IsScratchIn}
use Rattle.fault_effects.specs.declared.notes.Notes.{Notes}
use Rattle.fault_effects.specs.FaultModel.{FaultModel, Table}
use Rattle.fault_effects.specs.Walks.{IsWalk}

module _ {S : Type 0} (t : ScanTest) (good : PackedGood) (m : FaultModel) (sums : S → Table → Type 0) (b : ℕ) (K : CellKind) (s : Scratch) (notes : Notes S) where
  pub walk_scratch : (at : Option (ℕ × ℕ)) → IsWalk t good m sums b K s notes at → IsScratchIn good s
  walk_scratch None walk = walk
  walk_scratch (Some at) walk = walk.loaded.inside
