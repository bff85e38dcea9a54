-- The stem faults: where each stands, and that no other fault is among them.
use Rattle.std.proofs.Common.{◌≡◌, ℕ, zero, suc, ◌+◌, ◌*◌, ◌<◌, List, [], ◌∷◌, ◌++◌, length, Some, refl, sym, ap, ◌∙◌, arith, subst}
use Rattle.std.specs.Prelude.{flat_map, slice_get, Contains}
use Rattle.std.specs.List.{range_with_len, AllByRecursion}
use Rattle.std.proofs.lemmas.List.{flat_map_more}
use Rattle.std.proofs.lemmas.List.Elements.{All-from_recursion, All-contains}
use Rattle.scan_model.specs.declared.fault.Stuck.{Stuck}
use Rattle.scan_model.specs.declared.fault.Stuck.TheVariants.{Zero, One}
use Rattle.scan_model.specs.declared.fault.Fault.{Fault}
use Rattle.scan_model.specs.declared.fault.Fault.TheVariants.{Stem, Branch, Bridge, Cell}
use Rattle.scan_model.specs.ScanTest.{ScanTest}
use Rattle.scan_model.specs.Universe.{stems, stem_faults}
use Rattle.fault_universe.proofs.BitSteps.{range_more}

pub length-stems_of : (a n : ℕ) → length (flat_map stem_faults (range_with_len a n)) ≡ 2 * n
length-stems_of a zero = refl
length-stems_of a (suc n) = omega (arith, length-stems_of (a + 1) n)

pub zero_at : (a n k : ℕ) → k < n → slice_get (flat_map stem_faults (range_with_len a n)) (2 * k) ≡ Some (Stem (a + k) Zero)
zero_at a zero k lt = absurd (omega arith)
zero_at a (suc n) zero lt = ap (λ (m : ℕ). Some (Stem m Zero)) (omega arith)
zero_at a (suc n) (suc k) lt =
    let e : 2 * suc k ≡ suc (suc (2 * k)) = omega arith in
    rw e (zero_at (a + 1) n k (omega arith) ∙ ap (λ (m : ℕ). Some (Stem m Zero)) (omega arith))

pub one_at : (a n k : ℕ) → k < n → slice_get (flat_map stem_faults (range_with_len a n)) (2 * k + 1) ≡ Some (Stem (a + k) One)
one_at a zero k lt = absurd (omega arith)
one_at a (suc n) zero lt = ap (λ (m : ℕ). Some (Stem m One)) (omega arith)
one_at a (suc n) (suc k) lt =
    let e : 2 * suc k + 1 ≡ suc (suc (2 * k + 1)) = omega arith in
    rw e (one_at (a + 1) n k (omega arith) ∙ ap (λ (m : ℕ). Some (Stem m One)) (omega arith))

-- a stem of one of the first n nets
abbrev pub IsStemBelow : ℕ → Fault → Type 0
IsStemBelow n (Stem m v) = m < n
IsStemBelow n (Branch p v) = ⊥
IsStemBelow n (Bridge a b kind) = ⊥
IsStemBelow n (Cell h i kind) = ⊥

all_stems : (a n : ℕ) → AllByRecursion (IsStemBelow (a + n)) (flat_map stem_faults (range_with_len a n))
all_stems a zero = tt
all_stems a (suc n) = (omega arith, (omega arith, subst (λ (m : ℕ). AllByRecursion (IsStemBelow m) (flat_map stem_faults (range_with_len (a + 1) n))) (omega arith) (all_stems (a + 1) n)))

pub only_stems : (t : ScanTest) (f : Fault) → Contains (stems t) f → IsStemBelow (0 + length t.netlist.nets) f
only_stems t f there = All-contains (IsStemBelow (0 + length t.netlist.nets)) (stems t) f (All-from_recursion (IsStemBelow (0 + length t.netlist.nets)) (stems t) (all_stems 0 (length t.netlist.nets))) there

-- a fault that is no stem is not among them
pub no_other : (t : ScanTest) (f : Fault) → ((n : ℕ) (v : Stuck) → f ≡ Stem n v → ⊥) → Contains (stems t) f → ⊥
no_other t (Stem n v) other there = other n v refl
no_other t (Branch p v) other there = only_stems t (Branch p v) there
no_other t (Bridge a b kind) other there = only_stems t (Bridge a b kind) there
no_other t (Cell h i kind) other there = only_stems t (Cell h i kind) there

-- the stems of one more net
pub stems_more : (faults : List Fault) (n : ℕ) → (faults ++ flat_map stem_faults (range_with_len 0 n)) ++ Stem n Zero ∷ Stem n One ∷ [] ≡ faults ++ flat_map stem_faults (range_with_len 0 (n + 1))
stems_more faults n = flat_map_more stem_faults faults (range_with_len 0 n) n ∙ ap (λ (ns : List ℕ). faults ++ flat_map stem_faults ns) (sym (range_more n))
