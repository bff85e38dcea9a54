-- Faults that in one pattern of a block can explain a bit of each of two kinds.
use Rattle.std.specs.Prelude.{◌≡◌, ℕ, ◌<◌, List, Bool, true, ◌&&◌, slice_index_or}
use Rattle.scan_model.specs.declared.fault.Fault.{Fault}
use Rattle.scan_model.specs.Marks.{is_marked}
use Rattle.scan_model.specs.ScanTest.{ScanTest}
use Rattle.scan_model.specs.Universe.{universe}
use Rattle.explained_lanes.specs.Fails.{explains_in}
use Rattle.back_trace.specs.SuspectMarks.{no_fault}

-- in lane j of block b the fault can explain a bit of each kind
abbrev pub explains_both : ScanTest → Fault → ℕ → List (List ℕ) → List (List ℕ) → ℕ → Bool
explains_both t f b ones others j = explains_in t f b ones j && explains_in t f b others j

-- of the first faults of the list, those that do so in some lane are marked, and what was marked stays so
pub record AreBothMarked (t : ScanTest) (b : ℕ) (ones others : List (List ℕ)) (count : ℕ) (old new : List Bool) : Type 0 where
  pub kept : (p : ℕ) → is_marked old p ≡ true → is_marked new p ≡ true
  pub all : (p j : ℕ) → p < count → j < 512 → explains_both t (slice_index_or (universe t) p no_fault) b ones others j ≡ true → is_marked new p ≡ true
