-- The cell faults: where each stands, and whose they are.
use Rattle.std.proofs.Common.{◌≡◌, ℕ, zero, suc, ◌+◌, ◌-◌, ◌*◌, ◌/◌, ◌%◌, ◌<◌, ◌≤◌, List, ◌∷◌, [], ◌++◌, length, get_or, take, drop, Some, refl, sym, ap, ◌∙◌, arith, length-append}
use Rattle.std.specs.Prelude.{flat_map, slice_get, Contains}
use Rattle.std.specs.List.{range_with_len, enumerate_from}
use Rattle.std.proofs.lemmas.Option.{slice_get-get_or}
use Rattle.std.proofs.Math.Seq.{drop-cons}
use Rattle.std.proofs.lemmas.List.{take_more}
use Rattle.std.proofs.lemmas.List.{flat_map_more, length-take}
use Rattle.std.proofs.lemmas.List.Folds.{length-flat_map-take}
use Rattle.std.proofs.lemmas.List.FromFn.{length-range_with_len, get_or-range_with_len}
use Rattle.scan_model.specs.declared.parts.Chain.{Chain}
use Rattle.scan_model.specs.declared.fault.Fault.{Fault}
use Rattle.scan_model.specs.declared.fault.Fault.TheVariants.{Stem, Branch, Bridge, Cell}
use Rattle.scan_model.specs.ScanTest.{cells_of}
use Rattle.scan_model.specs.Universe.{cell_faults, chain_faults}
use Rattle.fault_universe.proofs.BitSteps.{enumerate_push}
use Rattle.fault_universe.proofs.Blocks.{length-blocks, block_at, owner, block_of, slice_get-left, slice_get-right}

-- the faults of one chain

pub length-chain : (h n : ℕ) → length (flat_map (cell_faults h) (range_with_len 0 n)) ≡ 4 * n
length-chain h n = length-blocks (cell_faults h) 4 (range_with_len 0 n) (λ i. refl) ∙ ap (λ m. 4 * m) (length-range_with_len 0 n)

pub in_chain : (h n i j k : ℕ) → i < n → j < 4 → 4 * i + j ≡ k → slice_get (flat_map (cell_faults h) (range_with_len 0 n)) k ≡ slice_get (cell_faults h i) j
in_chain h n i j k lt small is = block_at (cell_faults h) 4 (range_with_len 0 n) i j k i (λ m. refl)
    (slice_get-get_or (range_with_len 0 n) i 0 (omega (arith, length-range_with_len 0 n)) ∙ ap Some (get_or-range_with_len 0 n i 0 lt ∙ omega arith)) small is

-- the faults of all chains

pub length-cells_from : (a : ℕ) (chains : List Chain) → length (flat_map chain_faults (enumerate_from a chains)) ≡ 4 * length (cells_of chains)
length-cells_from a [] = omega arith
length-cells_from a (c ∷ cs) = length-append (chain_faults (a, c)) (flat_map chain_faults (enumerate_from (a + 1) cs)) ∙ omega (arith, length-chain a (length c.cells), length-cells_from (a + 1) cs, length-append c.cells (cells_of cs))

pub cell_stands : (a : ℕ) (chains : List Chain) (h i j k : ℕ) (d : Chain) → h < length chains → i < length (get_or chains h d).cells → j < 4 → 4 * (length (cells_of (take h chains)) + i) + j ≡ k → slice_get (flat_map chain_faults (enumerate_from a chains)) k ≡ slice_get (cell_faults (a + h) i) j
cell_stands a [] h i j k d lt inside small is = absurd (omega arith)
cell_stands a (c ∷ cs) zero i j k d lt inside small is =
    let here : 4 * i + j ≡ k = omega arith in
    slice_get-left (chain_faults (a, c)) (flat_map chain_faults (enumerate_from (a + 1) cs)) k (omega (arith, length-chain a (length c.cells)))
    ∙ in_chain a (length c.cells) i j k inside small here ∙ ap (λ n. slice_get (cell_faults n i) j) (omega arith)
cell_stands a (c ∷ cs) (suc h) i j k d lt inside small is =
    let size = length-chain a (length c.cells) in
    let split = length-append c.cells (cells_of (take h cs)) in
    slice_get-right (chain_faults (a, c)) (flat_map chain_faults (enumerate_from (a + 1) cs)) k (omega (arith, size, split))
    ∙ cell_stands (a + 1) cs h i j (k - length (chain_faults (a, c))) d (omega arith) inside small (omega (arith, size, split))
    ∙ ap (λ n. slice_get (cell_faults n i) j) (omega arith)

-- no other fault is among them

abbrev pub IsCell : Fault → Type 0
IsCell (Stem m v) = ⊥
IsCell (Branch p v) = ⊥
IsCell (Bridge a b kind) = ⊥
IsCell (Cell h i kind) = Unit {0}

pub only_cells : (es : List (ℕ × Chain)) (f : Fault) → Contains (flat_map chain_faults es) f → IsCell f
only_cells es f there =
    let chain = block_of chain_faults es f there in
    (owner (cell_faults chain.0.0) (λ i g. IsCell g) (range_with_len 0 (length chain.0.1.cells)) f (λ i. (tt, (tt, (tt, (tt, tt))))) chain.2).2

-- chain by chain

pub chain_room : (chains : List Chain) (h : ℕ) (d : Chain) → h < length chains → length (cells_of (take h chains)) + length (get_or chains h d).cells ≤ length (cells_of chains)
chain_room chains h d lt = length-flat_map-take (λ x. x.cells) chains h d lt

numbered_more : (chains : List Chain) (h : ℕ) (d : Chain) → h < length chains → enumerate_from 0 (take (h + 1) chains) ≡ enumerate_from 0 (take h chains) ++ (h, get_or chains h d) ∷ []
numbered_more chains h d lt =
    let same : 0 + length (take h chains) ≡ h = omega (arith, length-take h chains) in
    ap (enumerate_from 0) (take_more chains h d lt) ∙ enumerate_push 0 (take h chains) (get_or chains h d)
    ∙ ap (λ (n : ℕ). let e : List (ℕ × Chain) = enumerate_from 0 (take h chains) ++ (n, get_or chains h d) ∷ [] in e) same

pub cells_more : (faults : List Fault) (chains : List Chain) (h : ℕ) (d : Chain) → h < length chains → (faults ++ flat_map chain_faults (enumerate_from 0 (take h chains))) ++ flat_map (cell_faults h) (range_with_len 0 (length (get_or chains h d).cells)) ≡ faults ++ flat_map chain_faults (enumerate_from 0 (take (h + 1) chains))
cells_more faults chains h d lt = flat_map_more chain_faults faults (enumerate_from 0 (take h chains)) (h, get_or chains h d) ∙ ap (λ es. faults ++ flat_map chain_faults es) (sym (numbered_more chains h d lt))

-- the faults of the chains from number h on
abbrev pub faults_from : ℕ → List Chain → List Fault
faults_from h chains = flat_map chain_faults (enumerate_from h (drop h chains))

rest_from : (chains : List Chain) (h : ℕ) (d : Chain) → h < length chains → faults_from h chains ≡ chain_faults (h, get_or chains h d) ++ faults_from (h + 1) chains
rest_from chains h d lt =
    let next : suc h ≡ h + 1 = omega arith in
    ap (λ cs. flat_map chain_faults (enumerate_from h cs)) (drop-cons chains h d lt ∙ ap (λ (n : ℕ). get_or chains h d ∷ drop n chains) next)

pub in_this_chain : (chains : List Chain) (h left : ℕ) (d : Chain) → h < length chains → left < 4 * length (get_or chains h d).cells → slice_get (faults_from h chains) left ≡ slice_get (cell_faults h (left / 4)) (left % 4)
in_this_chain chains h left d lt below =
    let n = length (get_or chains h d).cells in
    ap (λ fs. slice_get fs left) (rest_from chains h d lt)
    ∙ slice_get-left (chain_faults (h, get_or chains h d)) (faults_from (h + 1) chains) left (omega (arith, length-chain h n))
    ∙ in_chain h n (left / 4) (left % 4) left (omega arith) (omega arith) (omega arith)

pub in_later_chain : (chains : List Chain) (h left : ℕ) (d : Chain) → h < length chains → 4 * length (get_or chains h d).cells ≤ left → slice_get (faults_from h chains) left ≡ slice_get (faults_from (h + 1) chains) (left - 4 * length (get_or chains h d).cells)
in_later_chain chains h left d lt past =
    let n = length (get_or chains h d).cells in
    let size : left - length (chain_faults (h, get_or chains h d)) ≡ left - 4 * n = omega (arith, length-chain h n) in
    ap (λ fs. slice_get fs left) (rest_from chains h d lt)
    ∙ slice_get-right (chain_faults (h, get_or chains h d)) (faults_from (h + 1) chains) left (omega (arith, length-chain h n))
    ∙ ap (slice_get (faults_from (h + 1) chains)) size
