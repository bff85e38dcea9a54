-- The branch faults: where each stands, and whose they are.
use Rattle.std.proofs.Common.{◌≡◌, ℕ, ◌+◌, ◌*◌, ◌<◌, ◌≤◌, List, length, get_or, Some, Result, Ok, Err, Bool, refl, subst, ◌∙◌, inl, inr, arith}
use Rattle.std.specs.Prelude.{filter, flat_map, slice_get, Contains}
use Rattle.std.specs.List.{range_with_len}
use Rattle.std.specs.List.Sorted.{IsBinarySearchResult}
use Rattle.std.specs.Ordering.{nat_cmp}
use Rattle.std.proofs.lemmas.Bool.{cases_lt}
use Rattle.std.proofs.lemmas.List.{get_or_default}
use Rattle.std.proofs.lemmas.List.Sorted.{searched}
use Rattle.std.proofs.lemmas.List.Sums.{length-filter, count_by-le-length}
use Rattle.std.proofs.lemmas.List.FromFn.{length-range_with_len}
use Rattle.std.proofs.lemmas.Option.{slice_get-get_or}
use Rattle.scan_model.specs.declared.fault.Stuck.TheVariants.{Zero, One}
use Rattle.scan_model.specs.declared.fault.Fault.{Fault}
use Rattle.scan_model.specs.declared.fault.Fault.TheVariants.{Stem, Branch, Bridge, Cell}
use Rattle.scan_model.specs.Universe.{branch_faults}
use Rattle.fault_universe.proofs.Blocks.{length-blocks, block_at, owner}

pub length-branches_of : (pins : List ℕ) → length (flat_map branch_faults pins) ≡ 2 * length pins
length-branches_of pins = length-blocks branch_faults 2 pins (λ p. refl)

pub branch_zero_at : (pins : List ℕ) (i k : ℕ) → i < length pins → 2 * i ≡ k → slice_get (flat_map branch_faults pins) k ≡ Some (Branch (get_or pins i 0) Zero)
branch_zero_at pins i k lt is = block_at branch_faults 2 pins i 0 k (get_or pins i 0) (λ p. refl) (slice_get-get_or pins i 0 lt) (omega arith) (omega arith)

pub branch_one_at : (pins : List ℕ) (i k : ℕ) → i < length pins → 2 * i + 1 ≡ k → slice_get (flat_map branch_faults pins) k ≡ Some (Branch (get_or pins i 0) One)
branch_one_at pins i k lt is = block_at branch_faults 2 pins i 1 k (get_or pins i 0) (λ p. refl) (slice_get-get_or pins i 0 lt) (omega arith) is

-- a branch fault of a pin
abbrev pub IsBranchOf : ℕ → Fault → Type 0
IsBranchOf p (Stem n v) = ⊥
IsBranchOf p (Branch q v) = p ≡ q
IsBranchOf p (Bridge a b kind) = ⊥
IsBranchOf p (Cell h i kind) = ⊥

pub branch_owner : (pins : List ℕ) (f : Fault) → Contains (flat_map branch_faults pins) f → (p : ℕ) × Contains pins p × IsBranchOf p f
branch_owner pins f there = owner branch_faults IsBranchOf pins f (λ p. (refl, (refl, tt))) there

pub branches_few : (p : ℕ → Bool) (n : ℕ) → length (filter p (range_with_len 0 n)) ≤ n
branches_few p n = omega (arith, length-filter p (range_with_len 0 n), count_by-le-length p (range_with_len 0 n), length-range_with_len 0 n)

-- what a search among the pins tells

pub pin_found : (pins : List ℕ) (pin : ℕ) (r : Result ℕ ℕ) (i : ℕ) → IsBinarySearchResult (λ y. nat_cmp y pin) pins r → ((i j : ℕ) → i ≤ j → j < length pins → get_or pins i 0 ≤ get_or pins j 0) → r ≡ Ok i → (i < length pins) × (get_or pins i 0 ≡ pin)
pin_found pins pin (Ok k) i found rising e = let same : k ≡ i = cc in subst (λ n. (n < length pins) × (get_or pins n 0 ≡ pin)) same (searched pins pin (Ok k) found rising)
pin_found pins pin (Err k) i found rising e = cc

pub pin_missing : (pins : List ℕ) (pin : ℕ) (r : Result ℕ ℕ) (i : ℕ) → IsBinarySearchResult (λ y. nat_cmp y pin) pins r → ((i j : ℕ) → i ≤ j → j < length pins → get_or pins i 0 ≤ get_or pins j 0) → r ≡ Err i → Contains pins pin → ⊥
pin_missing pins pin (Ok k) i found rising e there = cc
pin_missing pins pin (Err k) i found rising e there =
    let told = searched pins pin (Err k) found rising in
    let is : get_or pins there.0 0 ≡ pin = get_or_default pins there.0 0 pin there.1 ∙ there.2 in
    elim (cases_lt there.0 k) [
      | inl below ↦ absurd (omega (arith, told.1 there.0 below, is))
      | inr past ↦ absurd (omega (arith, told.2 there.0 past there.1, is))
    ]
