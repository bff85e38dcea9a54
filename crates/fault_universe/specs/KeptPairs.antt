-- The place of a pair in the list of kept pairs, and whether a fault is one of a pair.
use Rattle.std.specs.Prelude.{◌≡◌, ℕ, ◌<◌, List, length, Bool, false, ◌==◌, ◌&&◌, Option, MatchOption, IsTrue, All, Contains, slice_index_or}
use Rattle.scan_model.specs.declared.parts.Pair.{Pair}
use Rattle.scan_model.specs.declared.fault.Fault.{Fault}
use Rattle.scan_model.specs.ScanTest.{ScanTest}
use Rattle.scan_model.specs.Universe.{bridge_faults}

abbrev pub no_pair : Pair
no_pair = record { a = 0; b = 0; row = 0 }

-- the pair has these two nets, in this order
abbrev pub is_pair : ℕ → ℕ → Pair → Bool
is_pair a b p = (p.a == a) && (p.b == b)

-- an answer is a place of such a pair, or there is none
abbrev pub FindsPair : List Pair → ℕ → ℕ → Option ℕ → Type 0
FindsPair pairs a b answer = MatchOption answer (All (λ p. is_pair a b p ≡ false) pairs) (λ k. (k < length pairs) × IsTrue (is_pair a b (slice_index_or pairs k no_pair)))

-- no kept pair of these two nets, in this order, has the fault
abbrev pub IsNoneOfPair : ScanTest → ℕ → ℕ → Fault → Type 0
IsNoneOfPair t a b f = (p : Pair) → Contains t.pairs.kept p → IsTrue (is_pair a b p) → ¬ (Contains (bridge_faults t.profile p) f)
