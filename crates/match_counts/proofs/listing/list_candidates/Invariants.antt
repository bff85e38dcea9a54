use Rattle.std.proofs.Common.{◌≡◌, List, Bool, Some, take}
use Rattle.std.specs.Prelude.{All, slice_get}
use Rattle.scan_model.specs.declared.fault.Fault.{Fault}
use Rattle.scan_model.specs.declared.logs.Bit.{Bit}
use Rattle.scan_model.specs.declared.logs.BitClass.{BitClass}
use Rattle.fault_effects.specs.Owners.{places_of}
use Rattle.match_counts.specs.Totals.{AreTotals, candidates_in}
use Rattle.match_counts.proofs.listing.list_candidates.Given as goal

abbrev pub invariant-loop-index : goal.invariant-loop-index
invariant-loop-index l = (faults : List Fault) (bits : List Bit) (classes : Bit → BitClass) (fails : Fault → Bit → Bool) → All (λ s. slice_get faults s.place ≡ Some s.fault) l.suspects
    → AreTotals bits classes fails l.suspects l.totals → l.rows ≡ candidates_in faults bits classes fails (places_of (take l.index l.suspects))
