use Rattle.std.specs.Prelude.{ℕ, All}
use Rattle.fault_effects.specs.FaultModel.{FaultModel, Table}
use Rattle.fault_effects.specs.Regions.{ShowsAs}
use Rattle.fault_effects.proofs.region.leave.Given as goal

abbrev pub invariant-loop : goal.invariant-loop
invariant-loop l = (m : FaultModel) (b : ℕ) (root : Table) → All (λ x. ShowsAs m b root x.net x.lanes) l.initial.members.items → All (λ x. ShowsAs m b root x.net x.lanes) l.members.items
