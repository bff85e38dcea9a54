-- How the bits of a die divide into classes.
use Rattle.std.specs.Prelude.{◌≡◌, ℕ, ◌-◌, ◌*◌, ◌<◌, ◌≤◌, List, ◌∷◌, [], ◌++◌, length, filter, flat_map, min, All}
use Rattle.std.specs.List.{range_with_len}
use Rattle.scan_model.specs.declared.logs.Bit.{Bit}
use Rattle.scan_model.specs.declared.logs.BitClass.{BitClass}
use Rattle.scan_model.specs.declared.logs.BitClass.TheVariants.{Conflict, Masked, Failing, Passing, Uncounted}
use Rattle.scan_model.specs.Classes.{is_conflict, is_masked, is_failing, is_passing}
use Rattle.fault_universe.specs.BitRows.{row_bits}
use Rattle.diag_report.specs.declared.tally.Tally.{Tally}

-- the tally of some bits, by the class of each
abbrev pub tally_over : (Bit → BitClass) → List Bit → Tally
tally_over classes bits = record {
  failing = length (filter (λ b. is_failing (classes b)) bits);
  passing = length (filter (λ b. is_passing (classes b)) bits);
  conflict = filter (λ b. is_conflict (classes b)) bits;
  masked = filter (λ b. is_masked (classes b)) bits;
}

-- the bits at the first n points of so many patterns, from one on
abbrev pub block_bits : ℕ → ℕ → ℕ → List Bit
block_bits first count n = flat_map (λ w. row_bits w n) (range_with_len first count)

-- the bits at the first n points of those patterns of a word that are there
abbrev pub word_block : ℕ → ℕ → ℕ → List Bit
word_block patterns word n = block_bits (64 * word) (min 64 (patterns - 64 * word)) n

-- the tally with one more bit, if it is set aside
abbrev pub listed : Tally → BitClass → Bit → Tally
listed tally Conflict b = record tally { conflict = tally.conflict ++ b ∷ [] }
listed tally Masked b = record tally { masked = tally.masked ++ b ∷ [] }
listed tally Failing b = tally
listed tally Passing b = tally
listed tally Uncounted b = tally

-- the tally with those of some bits that are set aside
abbrev pub listed_over : (Bit → BitClass) → List Bit → Tally → Tally
listed_over classes bits tally = record tally {
  conflict = tally.conflict ++ filter (λ b. is_conflict (classes b)) bits;
  masked = tally.masked ++ filter (λ b. is_masked (classes b)) bits;
}

-- these bits and others have the same Conflict and the same Masked bits
pub record HaveSameAside (classes : Bit → BitClass) (bits others : List Bit) : Type 0 where
  pub conflict : filter (λ b. is_conflict (classes b)) bits ≡ filter (λ b. is_conflict (classes b)) others
  pub masked : filter (λ b. is_masked (classes b)) bits ≡ filter (λ b. is_masked (classes b)) others

-- no more than n bits, at so many points
pub record IsTallyOf (points n : ℕ) (tally : Tally) : Type 0 where
  pub failing : tally.failing ≤ n
  pub passing : tally.passing ≤ n
  pub conflict : All (λ b. b.point < points) tally.conflict
  pub masked : All (λ b. b.point < points) tally.masked
