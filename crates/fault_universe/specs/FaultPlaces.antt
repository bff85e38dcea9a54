-- The place of a fault in a list of faults.
use Rattle.std.specs.Prelude.{◌≡◌, ℕ, List, Option, Some, MatchOption, Contains, slice_get}
use Rattle.scan_model.specs.declared.fault.Fault.{Fault}

-- an answer is a place of the fault in the list, or none where it isn't there
abbrev pub FindsPlace : List Fault → Fault → Option ℕ → Type 0
FindsPlace faults f answer = MatchOption answer (¬ (Contains faults f)) (λ place. slice_get faults place ≡ Some f)
