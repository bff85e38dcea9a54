-- Counts by suspect, added up over blocks.
use Rattle.std.specs.Prelude.{◌≡◌, ℕ, ◌+◌, ◌*◌, ◌^◌, ◌<◌, ◌≤◌, List, length, All, map, filter, sum_by, count_by, Bool, true, false, slice_index_or}
use Rattle.std.specs.List.{range_with_len}
use Rattle.scan_model.specs.declared.fault.Fault.{Fault}
use Rattle.scan_model.specs.declared.fault.Fault.TheVariants as fault
use Rattle.scan_model.specs.declared.fault.Stuck.TheVariants as stuck
use Rattle.scan_model.specs.declared.logs.Bit.{Bit}
use Rattle.scan_model.specs.declared.logs.BitClass.{BitClass}
use Rattle.scan_model.specs.declared.logs.LogFacts.{LogFacts}
use Rattle.scan_model.specs.declared.logs.Scored.{Scored}
use Rattle.scan_model.specs.ScanTest.{ScanTest}
use Rattle.scan_model.specs.Response.{predicts_fail}
use Rattle.scan_model.specs.Universe.{universe}
use Rattle.scan_model.specs.Coverage.{bits_of}
use Rattle.scan_model.specs.Classes.{class, is_failing}
use Rattle.scan_model.specs.MatchCounts.{counts_by, scored_by, is_candidate}
use Rattle.log_rows.specs.declared.point_row.PointRow.{PointRow}
use Rattle.fault_effects.specs.declared.share.Share.{Share}
use Rattle.log_rows.specs.declared.side.Side.TheVariants.{Failing, Passing}
use Rattle.fault_effects.specs.declared.suspect.Suspect.{Suspect}
use Rattle.fault_effects.specs.FaultModel.{FaultModel}
use Rattle.fault_effects.specs.Owners.{suspect_at}
use Rattle.fault_effects.specs.Shares.{AreRight, HasShare, suspect_fails}
use Rattle.match_counts.specs.declared.block_count.BlockCount.{BlockCount}
use Rattle.match_counts.specs.declared.totals.Total.{Total}
use Rattle.match_counts.specs.Sides.{Classes, hits_in, predicted_in}
use Rattle.match_counts.specs.Tables.{IsCount}

-- each share is what the truth says of its suspect
abbrev pub AreCounts : (ℕ → BlockCount) → List (Share BlockCount) → Type 0
AreCounts truth shares = All (λ s. s.part ≡ truth s.suspect) shares

abbrev pub no_total : Total
no_total = record { tfsf = 0; tpsf = 0 }

abbrev pub total_at : List Total → ℕ → Total
total_at totals i = slice_index_or totals i no_total

abbrev pub plus : Total → BlockCount → Total
plus total count = record { tfsf = total.tfsf + count.tfsf; tpsf = total.tpsf + count.tpsf }

pub record IsAtMost (n : ℕ) (total : Total) : Type 0 where
  pub tfsf : total.tfsf ≤ n
  pub tpsf : total.tpsf ≤ n

abbrev pub AreTotalsAtMost : ℕ → List Total → Type 0
AreTotalsAtMost n totals = (i : ℕ) → IsAtMost n (total_at totals i)

-- what a fault explains and mispredicts in the first blocks
abbrev pub sum_of : FaultModel → Classes → ℕ → Fault → Total
sum_of m on blocks f = record {
  tfsf = sum_by (predicted_in m on Failing f) (range_with_len 0 blocks);
  tpsf = sum_by (predicted_in m on Passing f) (range_with_len 0 blocks);
}

-- the truth is added for each suspect that has a share
abbrev pub IsAdded : (ℕ → BlockCount) → List (Share BlockCount) → List Total → List Total → Type 0
IsAdded truth shares old new = (i : ℕ) → HasShare shares i → total_at new i ≡ plus (total_at old i) (truth i)

-- ---- each suspect once

-- whether suspect i is marked
abbrev pub is_marked : List Bool → ℕ → Bool
is_marked marks i = slice_index_or marks i false

-- a suspect without a mark has room for one block more
abbrev pub HaveRoom : List Bool → List Total → Type 0
HaveRoom marks totals = (i : ℕ) → is_marked marks i ≡ false → IsAtMost (2 ^ 63) (total_at totals i)

-- The suspects of some shares are marked beside those that were. What the truth says is added for those that weren't, and no other total changes.
pub record AreAddedOnce (shares : List (Share BlockCount)) (marks : List Bool) (old : List Total) (added : List Bool) (new : List Total) : Type 0 where
  pub marked : (i : ℕ) → HasShare shares i → is_marked added i ≡ true
  pub kept : (i : ℕ) → is_marked marks i ≡ true → (is_marked added i ≡ true) × (total_at new i ≡ total_at old i)
  pub sums : (truth : ℕ → BlockCount) → AreCounts truth shares → (i : ℕ) → is_marked marks i ≡ false → is_marked added i ≡ true → total_at new i ≡ plus (total_at old i) (truth i)
  pub others : (i : ℕ) → is_marked added i ≡ false → total_at new i ≡ total_at old i
  pub at_most : (n i : ℕ) → is_marked marks i ≡ false → IsAtMost n (total_at old i) → IsAtMost (n + 2 ^ 32) (total_at new i)

-- ---- block by block

-- so many blocks, the Failing bits that they have, and a total for each suspect
pub record TotalsSoFar : Type 0 where
  pub blocks : ℕ
  pub failing : ℕ
  pub totals : List Total

-- so many blocks have no more than that, and each suspect has a mark
pub record AreBounded (blocks failing : ℕ) (totals : List Total) (marks : List Bool) : Type 0 where
  pub few : failing ≤ blocks * 2 ^ 32
  pub small : AreTotalsAtMost (blocks * 2 ^ 32) totals
  pub len : length marks ≡ length totals

-- each suspect has its share of block b, and all shares are right
pub record AreBlockShares (m : FaultModel) (b : ℕ) (rows : List PointRow) (suspects : List Suspect) (shares : List (Share BlockCount)) : Type 0 where
  pub right : AreRight (IsCount rows) (suspect_fails m b suspects) shares
  pub there : (i : ℕ) → i < length suspects → HasShare shares i

-- the Failing bits of the blocks so far, and what each suspect explains and mispredicts in them
pub record AreCounted (m : FaultModel) (on : Classes) (suspects : List Suspect) (counts : TotalsSoFar) : Type 0 where
  pub failing : counts.failing ≡ sum_by (hits_in m (on Failing)) (range_with_len 0 counts.blocks)
  pub sums : (i : ℕ) → i < length suspects → total_at counts.totals i ≡ sum_of m on counts.blocks (suspect_at suspects i).fault

-- ---- over all bits

-- what a fault explains and mispredicts of some bits
abbrev pub total_of : List Bit → (Bit → BitClass) → (Fault → Bit → Bool) → Fault → Total
total_of bits classes fails f = record { tfsf = (counts_by bits classes (fails f)).tfsf; tpsf = (counts_by bits classes (fails f)).tpsf }

-- all suspects have the counts of their faults, and how many of the bits are Failing is counted
pub record AreTotals (bits : List Bit) (classes : Bit → BitClass) (fails : Fault → Bit → Bool) (suspects : List Suspect) (counts : TotalsSoFar) : Type 0 where
  pub failing : counts.failing ≡ count_by (λ b. is_failing (classes b)) bits
  pub whole : (i : ℕ) → i < length suspects → total_at counts.totals i ≡ total_of bits classes fails (suspect_at suspects i).fault

-- over the bits of a test and the logs of a die
abbrev pub AreTestTotals : ScanTest → List LogFacts → List Suspect → TotalsSoFar → Type 0
AreTestTotals t logs suspects counts = AreTotals (bits_of t) (class t logs) (predicts_fail t) suspects counts

abbrev pub fault_in : List Fault → ℕ → Fault
fault_in faults place = slice_index_or faults place (fault.Stem 0 stuck.Zero)

-- of the faults at some places of a list, those that explain at least one failing bit, with their counts
abbrev pub candidates_in : List Fault → List Bit → (Bit → BitClass) → (Fault → Bit → Bool) → List ℕ → List Scored
candidates_in faults bits classes fails places = filter is_candidate (map (λ p. scored_by bits classes fails (p, fault_in faults p)) places)

-- the candidates among the faults of a test at some places, over its bits and the logs of a die
abbrev pub candidates_at : ScanTest → List LogFacts → List ℕ → List Scored
candidates_at t logs places = candidates_in (universe t) (bits_of t) (class t logs) (predicts_fail t) places
