-- Where the cells of a chain stand: among all cells no two are the same, and each is a point.
use Rattle.std.proofs.Common.{◌≡◌, ◌≢◌, ℕ, zero, suc, ◌+◌, ◌-◌, ◌<◌, ◌≤◌, ltb, List, [], ◌∷◌, length, map, get_or, refl, sym, subst, ◌∙◌, inl, inr, arith}
use Rattle.std.specs.Prelude.{Contains, flat_map, nat_eq}
use Rattle.std.specs.List.{range_with_len}
use Rattle.std.proofs.lemmas.Bool.{cases_Bool, cases_eq, cases_lt, eqb-false, lt-ltb}
use Rattle.std.proofs.lemmas.List.{get_or_default, get_or_append_left, get_or-append-add, length-append}
use Rattle.std.proofs.lemmas.List.Elements.{Contains-append_left, Contains-append_right}
use Rattle.std.proofs.lemmas.Map.Keys.{apart_from_distinct}
use Rattle.scan_model.specs.declared.parts.Chain.{Chain}
use Rattle.scan_model.specs.declared.parts.Point.{Point}
use Rattle.scan_model.specs.declared.parts.Point.TheVariants.{Output, Cell}
use Rattle.scan_model.specs.ScanTest.{ScanTest, IsScanTest, no_chain, chain_at, cells_of, cycle, longest, points_of, point_at}
use Rattle.scan_model.specs.Loads.{cell}

-- how many cells stand before those of chain h
before : List Chain → ℕ → ℕ
before [] h = 0
before (c ∷ cs) zero = 0
before (c ∷ cs) (suc h) = length c.cells + before cs h

record StandsAt (chains : List Chain) (h i at : ℕ) : Type 0 where
  inside : at < length (cells_of chains)
  is : get_or (cells_of chains) at 0 ≡ get_or (get_or chains h no_chain).cells i 0

stands : (chains : List Chain) (h i : ℕ) → h < length chains → i < length (get_or chains h no_chain).cells → StandsAt chains h i (before chains h + i)
unfolding before
stands [] h i lt within = absurd (omega arith)
stands (c ∷ cs) zero i lt within =
    let zero_add : 0 + i ≡ i = omega arith in
    rw zero_add (record {
      inside = omega (arith, within, length-append c.cells (cells_of cs));
      is = get_or_append_left c.cells (cells_of cs) 0 i within;
    })
stands (c ∷ cs) (suc h) i lt within =
    let rest = stands cs h i (omega arith) within in
    let grouped : length c.cells + before cs h + i ≡ length c.cells + (before cs h + i) = omega arith in
    rw grouped (record {
      inside = omega (arith, rest.inside, length-append c.cells (cells_of cs));
      is = get_or-append-add c.cells (cells_of cs) (before cs h + i) 0 ∙ rest.is;
    })

rises_apart : (t : ScanTest) → IsScanTest t → (h i k : ℕ) → h < length t.chains → i < k → k < length (chain_at t h).cells → cell t h i ≢ cell t h k
rises_apart t sound h i k lt less k_in same =
    let a = stands t.chains h i lt (omega arith) in
    let b = stands t.chains h k lt k_in in
    eqb-false (get_or (cells_of t.chains) (before t.chains h + i) 0) (get_or (cells_of t.chains) (before t.chains h + k) 0)
    (apart_from_distinct nat_eq (cells_of t.chains) (before t.chains h + i) (before t.chains h + k) 0 sound.chains.cells_differ (omega arith) b.inside)
    (a.is ∙ same ∙ sym b.is)

-- two positions of a chain have different cells
pub cells_apart : (t : ScanTest) → IsScanTest t → (h i k : ℕ) → h < length t.chains → i < length (chain_at t h).cells → k < length (chain_at t h).cells → i ≢ k → cell t h i ≢ cell t h k
cells_apart t sound h i k lt i_in k_in other same = elim (cases_lt i k) [
  | inl less ↦ rises_apart t sound h i k lt less k_in same
  | inr more ↦ rises_apart t sound h k i lt (omega arith) i_in (sym same)
]

-- ---- each cell is a point

in_cycle : (n h j : ℕ) (cs : List Chain) → j < length cs → n < length (get_or cs j no_chain).cells → Contains (cycle n h cs) (Cell (h + j) (length (get_or cs j no_chain).cells - 1 - n))
in_cycle n h j [] lt shows = absurd (omega arith)
in_cycle n h zero (c ∷ cs) lt shows =
    let add_zero : h + 0 ≡ h = omega arith in
    rw (lt-ltb n (length c.cells) shows, add_zero) (0, omega arith, refl)
in_cycle n h (suc j) (c ∷ cs) lt shows =
    let step : h + suc j ≡ (h + 1) + j = omega arith in
    let rest = in_cycle n (h + 1) j cs (omega arith) shows in
    elim (cases_Bool (ltb n (length c.cells))) [
      | inl here ↦ rw (here, step) (Contains-append_right (Cell h (length c.cells - 1 - n) ∷ []) (cycle n (h + 1) cs) (Cell (h + 1 + j) (length (get_or cs j no_chain).cells - 1 - n)) rest)
      | inr not_here ↦ rw (not_here, step) rest
    ]

in_flat : (f : ℕ → List Point) (x : Point) (a m n : ℕ) → a ≤ n → n < a + m → Contains (f n) x → Contains (flat_map f (range_with_len a m)) x
in_flat f x a zero n le lt in' = absurd (omega arith)
in_flat f x a (suc m) n le lt in' = elim (cases_eq n a) [
  | inl same ↦ Contains-append_left (f a) (flat_map f (range_with_len (a + 1) m)) x (subst (λ (k : ℕ). Contains (f k) x) same in')
  | inr other ↦ Contains-append_right (f a) (flat_map f (range_with_len (a + 1) m)) x (in_flat f x (a + 1) m n (omega arith) (omega arith) in')
]

within_longest : (cs : List Chain) (j : ℕ) → j < length cs → length (get_or cs j no_chain).cells ≤ longest cs
within_longest [] j lt = absurd (omega arith)
within_longest (c ∷ cs) zero lt = omega arith
within_longest (c ∷ cs) (suc j) lt = omega (arith, within_longest cs j (omega arith))

pub point_of_cell : (t : ScanTest) (h i : ℕ) → h < length t.chains → i < length (chain_at t h).cells → (k : ℕ) × (k < length (points_of t)) × (point_at t k ≡ Cell h i)
point_of_cell t h i lt within =
    let L = length (chain_at t h).cells in
    let n = L - 1 - i in
    let back : L - 1 - n ≡ i = omega arith in
    let zero_add : 0 + h ≡ h = omega arith in
    let x = Cell h i in
    let shown : Contains (cycle n 0 t.chains) x = subst (λ (k : ℕ). Contains (cycle n 0 t.chains) (Cell k i)) zero_add (subst (λ (k : ℕ). Contains (cycle n 0 t.chains) (Cell (0 + h) k)) back (in_cycle n 0 h t.chains lt (omega arith))) in
    let outputs = map (λ k. Output k) (range_with_len 0 (length t.netlist.outputs)) in
    let at = Contains-append_right outputs (flat_map (λ m. cycle m 0 t.chains) (range_with_len 0 (longest t.chains))) x
    (in_flat (λ m. cycle m 0 t.chains) x 0 (longest t.chains) n (omega arith) (omega (arith, within_longest t.chains h lt)) shown) in
    (at.0, at.1, get_or_default (points_of t) at.0 (Output 0) x at.1 ∙ at.2)
