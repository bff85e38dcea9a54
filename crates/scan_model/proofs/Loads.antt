-- Rows of values written to the cells of chains.
use Rattle.std.proofs.Common.{◌≡◌, ◌≢◌, ℕ, zero, suc, ◌+◌, ◌<◌, false, eqb, List, [], ◌∷◌, length, get_or, take, drop, refl, sym, ap, ◌∙◌, Option, Some, None, true, cond, arith}
use Rattle.std.specs.Prelude.{flat_map, nat_eq}
use Rattle.std.specs.List.{IsDistinct}
use Rattle.std.proofs.lemmas.Bool.{eq-eqb, ne_eqb, eqb-false}
use Rattle.std.proofs.lemmas.List.{drop_more, length-map, length-append}
use Rattle.std.proofs.lemmas.List.Elements.{All-from_recursion}
use Rattle.std.proofs.lemmas.List.FromFn.{length-map-range_with_len}
use Rattle.std.proofs.lemmas.List.Concat.{get_or-flat_map}
use Rattle.std.proofs.lemmas.List.Folds.{length-flat_map-take}
use Rattle.scan_model.specs.declared.values.Tri.{Tri}
use Rattle.scan_model.specs.declared.values.Tri.TheVariants.{Unknown}
use Rattle.scan_model.specs.declared.parts.Chain.{Chain}
use Rattle.scan_model.specs.declared.fault.Fault.{Fault}
use Rattle.scan_model.specs.declared.fault.Fault.TheVariants as fault
use Rattle.scan_model.specs.ChainShift.{value_at, loaded_at, load_with}
use Rattle.scan_model.specs.Faults.{loaded}
use Rattle.scan_model.specs.ScanTest.{ScanTest, IsScanTest, cells_of, chain_at, no_chain}
use Rattle.scan_model.specs.NetValue.{assigned}
use Rattle.scan_model.specs.Loads.{FitChains, cell}
use Rattle.scan_model.proofs.Assigned.{assigned_agree, assigned-append}
use Rattle.scan_model.proofs.Cells.{cell_is_flop_of, no_input}

-- each row has a value for each cell of its chain
pub same_len : (chains : List Chain) (rows : List (List Tri)) (j : ℕ) (d : Chain) (e : List Tri) → FitChains chains rows → j < length chains → length (get_or chains j d).cells ≡ length (get_or rows j e)
same_len [] rows j d e fit lt = absurd (omega arith)
same_len (c ∷ cs) [] j d e fit lt = absurd cc
same_len (c ∷ cs) (r ∷ rs) zero d e fit lt = cc
same_len (c ∷ cs) (r ∷ rs) (suc j) d e fit lt =
    let rest : FitChains cs rs = cc in
    same_len cs rs j d e rest (omega arith)

pub row_fits : (chains : List Chain) (rows : List (List Tri)) (j : ℕ) (c : Chain) (r : List Tri) → FitChains chains rows → j < length chains → c ≡ get_or chains j c → r ≡ get_or rows j r → length c.cells ≡ length r
row_fits chains rows j c r fit lt is_c is_r = ap (λ (h : Chain). length h.cells) is_c ∙ same_len chains rows j c r fit lt ∙ ap length (sym is_r)

pub as_many : (chains : List Chain) (rows : List (List Tri)) → FitChains chains rows → length rows ≡ length chains
as_many chains rows fit = sym (length-map rows length) ∙ ap length fit ∙ length-map chains (λ h. length h.cells)

-- the row of one more chain, from the back
pub rows_more : (chains : List Chain) (rows : List (List Tri)) (old new before : ℕ → Tri) (i j : ℕ) (c : Chain) (r : List Tri) → FitChains chains rows → j < length chains → i ≡ j + 1
    → c ≡ get_or chains j c → r ≡ get_or rows j r
    → ((n : ℕ) → old n ≡ assigned (cells_of (drop i chains)) (flat_map (λ row. row) (drop i rows)) before n)
    → ((n : ℕ) → new n ≡ assigned c.cells r old n)
    → (n : ℕ) → new n ≡ assigned (cells_of (drop j chains)) (flat_map (λ row. row) (drop j rows)) before n
rows_more chains rows old new before i j c r fit lt step is_c is_r so_far written n =
    let in_rows : j < length rows = omega (arith, as_many chains rows fit) in
    rw (drop_more chains j c lt, drop_more rows j r in_rows, ← is_c, ← is_r, ← step)
    (written n
    ∙ assigned_agree c.cells r old (assigned (cells_of (drop i chains)) (flat_map (λ row. row) (drop i rows)) before) n (so_far n)
    ∙ sym (assigned-append c.cells (cells_of (drop i chains)) r (flat_map (λ row. row) (drop i rows)) before n (row_fits chains rows j c r fit lt is_c is_r)))

-- a net that has no value there
assigned_past : (ms : List ℕ) (vs : List Tri) (f : ℕ → Tri) (n : ℕ) → ((i : ℕ) → i < length ms → get_or ms i 0 ≢ n) → assigned ms vs f n ≡ f n
assigned_past [] vs f n past = refl
assigned_past (m ∷ ms) [] f n past = refl
assigned_past (m ∷ ms) (v ∷ vs) f n past = rw (ne_eqb n m (λ is. past 0 (omega arith) (sym is))) (assigned_past ms vs f n (λ i lt. past (suc i) (omega arith)))

-- one that has
assigned_own : (ms : List ℕ) (vs : List Tri) (f : ℕ → Tri) (j : ℕ) → IsDistinct nat_eq ms → length ms ≡ length vs → j < length ms → assigned ms vs f (get_or ms j 0) ≡ value_at vs j
unfolding IsDistinct
assigned_own [] vs f j distinct e lt = absurd (omega arith)
assigned_own (m ∷ ms) [] f j distinct e lt = absurd (omega arith)
assigned_own (m ∷ ms) (v ∷ vs) f zero distinct e lt = rw (eq-eqb m m refl) refl
assigned_own (m ∷ ms) (v ∷ vs) f (suc j) distinct e lt =
    let apart : eqb m (get_or ms j 0) ≡ false = All-from_recursion (λ y. nat_eq m y ≡ false) ms distinct.0 j 0 (omega arith) in
    rw (ne_eqb (get_or ms j 0) m (λ is. eqb-false m (get_or ms j 0) apart (sym is))) (assigned_own ms vs f j distinct.1 (omega arith) (omega arith))

same_fronts : (chains : List Chain) (rows : List (List Tri)) (h : ℕ) → FitChains chains rows → length (flat_map (λ c. c.cells) (take h chains)) ≡ length (flat_map (λ row. row) (take h rows))
same_fronts chains rows zero e = refl
same_fronts [] [] (suc h) e = refl
same_fronts [] (r ∷ rs) (suc h) e = absurd cc
same_fronts (c ∷ cs) [] (suc h) e = absurd cc
same_fronts (c ∷ cs) (r ∷ rs) (suc h) e =
    let len : length c.cells ≡ length r = cc in
    let rest : FitChains cs rs = cc in
    rw (length-append c.cells (flat_map (λ c. c.cells) (take h cs)), length-append r (flat_map (λ row. row) (take h rs)), len, same_fronts cs rs h rest) refl

all_fronts : (chains : List Chain) (rows : List (List Tri)) → FitChains chains rows → length (cells_of chains) ≡ length (flat_map (λ row. row) rows)
all_fronts [] [] e = refl
all_fronts [] (r ∷ rs) e = absurd cc
all_fronts (c ∷ cs) [] e = absurd cc
all_fronts (c ∷ cs) (r ∷ rs) e =
    let len : length c.cells ≡ length r = cc in
    let rest : FitChains cs rs = cc in
    rw (length-append c.cells (cells_of cs), length-append r (flat_map (λ row. row) rs), len, all_fronts cs rs rest) refl

rows_own : (chains : List Chain) (rows : List (List Tri)) (f : ℕ → Tri) (h i : ℕ) → IsDistinct nat_eq (cells_of chains) → FitChains chains rows → h < length chains → i < length (get_or chains h no_chain).cells
    → assigned (cells_of chains) (flat_map (λ row. row) rows) f (get_or (get_or chains h no_chain).cells i 0) ≡ value_at (get_or rows h []) i
rows_own chains rows f h i distinct fit lt within =
    let place = length (flat_map (λ (c : Chain). c.cells) (take h chains)) + i in
    let is_cell = get_or-flat_map (λ (c : Chain). c.cells) chains h i no_chain 0 lt within in
    let is_value = get_or-flat_map (λ (row : List Tri). row) rows h i [] Unknown (omega (arith, as_many chains rows fit)) (omega (arith, same_len chains rows h no_chain [] fit lt)) in
    ap (assigned (cells_of chains) (flat_map (λ row. row) rows) f) (sym is_cell)
    ∙ assigned_own (cells_of chains) (flat_map (λ row. row) rows) f place distinct (all_fronts chains rows fit) (omega (arith, length-flat_map-take (λ (c : Chain). c.cells) chains h no_chain lt))
    ∙ ap (λ (k : ℕ). value_at (flat_map (λ row. row) rows) (k + i)) (same_fronts chains rows h fit)
    ∙ is_value

-- a cell has the value of its place in its chain's row, whatever the inputs have
pub row_drives : (t : ScanTest) (values : List Tri) (rows : List (List Tri)) (h i : ℕ) → IsScanTest t → FitChains t.chains rows → h < length t.chains → i < length (chain_at t h).cells
    → assigned t.netlist.inputs values (assigned (cells_of t.chains) (flat_map (λ row. row) rows) (λ m. Unknown)) (cell t h i) ≡ value_at (get_or rows h []) i
row_drives t values rows h i sound fit lt within =
    assigned_past t.netlist.inputs values (assigned (cells_of t.chains) (flat_map (λ row. row) rows) (λ m. Unknown)) (cell t h i)
    (λ k below. no_input t.netlist (cell t h i) k sound.circuit.netlist (cell_is_flop_of t sound h i lt within).1 below)
    ∙ rows_own t.chains rows (λ m. Unknown) h i sound.chains.cells_differ fit lt within

-- a fault keeps the length of a row that is loaded
pub length-loaded : (f : Option Fault) (h : ℕ) (row : List Tri) → length (loaded f h row) ≡ length row
length-loaded None h row = refl
length-loaded (Some (fault.Stem m v)) h row = refl
length-loaded (Some (fault.Branch p v)) h row = refl
length-loaded (Some (fault.Bridge a b kind)) h row = refl
length-loaded (Some (fault.Cell g c kind)) h row = elim (eqb h g) as (λ b. length (cond b (load_with kind c row) row) ≡ length row) [
  | true ↦ length-map-range_with_len (loaded_at kind c row) 0 (length row)
  | false ↦ refl
]
