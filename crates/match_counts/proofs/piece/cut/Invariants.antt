use Rattle.std.proofs.Common.{◌≡◌, ◌⊎◌, ◌↔◌, ℕ, length}
use Rattle.std.specs.Prelude.{Contains}
use Rattle.fault_effects.specs.declared.work_kind.WorkKind.{WorkKind}
use Rattle.match_counts.specs.WorkPieces.{HasItem}
use Rattle.match_counts.proofs.piece.cut.Given as goal

abbrev pub invariant-loop-rest : goal.invariant-loop-rest
invariant-loop-rest g l = (k : WorkKind) (n : ℕ) → (HasItem l.pieces.items k n ⊎ ((k ≡ l.kind) × Contains l.rest n)) ↔ (HasItem l.initial.pieces.items k n ⊎ ((k ≡ l.kind) × Contains l.items n))

abbrev pub decreases-loop-rest : goal.decreases-loop-rest
decreases-loop-rest g l = length l.rest
