-- How many points a scan test has.
use Rattle.std.proofs.Common.{◌≡◌, ℕ, zero, suc, ◌+◌, ◌-◌, ◌<◌, ◌≤◌, min, true, ltb, eqb, List, [], ◌∷◌, ◌++◌, length, map, refl, ap, inl, inr, arith, length-append}
use Rattle.std.specs.Prelude.{All, flat_map}
use Rattle.std.specs.List.{range_with_len, list_any}
use Rattle.std.proofs.lemmas.Bool.{cases_Bool, eqb-true, ltb-true, ltb-false}
use Rattle.std.proofs.lemmas.Grind.{flat_map-append}
use Rattle.std.proofs.lemmas.List.Elements.{All-contains}
use Rattle.std.proofs.lemmas.List.FromFn.{map-range_with_len_more, length-map-range_with_len}
use Rattle.std.proofs.lemmas.List.{get_or_default, map-id}
use Rattle.std.proofs.lemmas.Map.Steps.{length-le_from_distinct_below}
use Rattle.std.proofs.lemmas.Map.Views.{Contains-from_any}
use Rattle.scan_model.specs.declared.parts.Chain.{Chain}
use Rattle.scan_model.specs.declared.parts.Point.{Point}
use Rattle.scan_model.specs.declared.parts.Point.TheVariants.{Output}
use Rattle.scan_model.specs.Netlist.{Netlist}
use Rattle.scan_model.specs.Circuits.{IsCircuit}
use Rattle.scan_model.specs.ScanTest.{ScanTest, AreChains, IsScanTest, cells_of, cycle, longest, points_of}
use Rattle.scan_model.proofs.Outputs.{output_in_range}

-- one unload cycle more
pub cycles_more : (f : ℕ → List Point) (n : ℕ) → flat_map f (range_with_len 0 (n + 1)) ≡ flat_map f (range_with_len 0 n) ++ f n
cycles_more f n =
    let e : map (λ (k : ℕ). k) (range_with_len 0 (n + 1)) ≡ map (λ (k : ℕ). k) (range_with_len 0 n) ++ n ∷ [] = map-range_with_len_more (λ k. k) 0 n n (omega arith) in
    let r : range_with_len 0 (n + 1) ≡ range_with_len 0 n ++ n ∷ [] = simp map-id at e in
    rw (r, flat_map-append f (range_with_len 0 n) (n ∷ [])) (ap (λ xs. flat_map f (range_with_len 0 n) ++ xs) (append-nil (f n)))
  where
    append-nil : (xs : List Point) → xs ++ [] ≡ xs
    append-nil [] = refl
    append-nil (x ∷ xs) = ap (λ ys. x ∷ ys) (append-nil xs)

-- the cycles from a on show of the chains what the cycles show of the first and of the others
first_apart : (h a n : ℕ) (c : Chain) (cs : List Chain) → length (flat_map (λ t. cycle t h (c ∷ cs)) (range_with_len a n)) ≡ (min (a + n) (length c.cells) - a) + length (flat_map (λ t. cycle t (h + 1) cs) (range_with_len a n))
first_apart h a zero c cs = omega arith
first_apart h a (suc n) c cs =
    let rest = first_apart h (a + 1) n c cs in
    elim (cases_Bool (ltb a (length c.cells))) [
      | inl shows ↦ rw (shows, length-append (cycle a (h + 1) cs) (flat_map (λ t. cycle t h (c ∷ cs)) (range_with_len (a + 1) n)), length-append (cycle a (h + 1) cs) (flat_map (λ t. cycle t (h + 1) cs) (range_with_len (a + 1) n)), rest) (omega (arith, ltb-true a (length c.cells) shows))
      | inr not_there ↦ rw (not_there, length-append (cycle a (h + 1) cs) (flat_map (λ t. cycle t h (c ∷ cs)) (range_with_len (a + 1) n)), length-append (cycle a (h + 1) cs) (flat_map (λ t. cycle t (h + 1) cs) (range_with_len (a + 1) n)), rest) (omega (arith, ltb-false a (length c.cells) not_there))
    ]

no_chains : (h : ℕ) (ts : List ℕ) → length (flat_map (λ t. cycle t h []) ts) ≡ 0
no_chains h [] = refl
no_chains h (t ∷ ts) = no_chains h ts

cells_shown : (h n : ℕ) (cs : List Chain) → longest cs ≤ n → length (flat_map (λ t. cycle t h cs) (range_with_len 0 n)) ≡ length (cells_of cs)
cells_shown h n [] le = no_chains h (range_with_len 0 n)
cells_shown h n (c ∷ cs) le = rw (first_apart h 0 n c cs, cells_shown (h + 1) n cs (omega arith), length-append c.cells (cells_of cs)) (omega arith)

longest-le : (cs : List Chain) → longest cs ≤ length (cells_of cs)
longest-le [] = omega arith
longest-le (c ∷ cs) = rw (length-append c.cells (cells_of cs)) (omega (arith, longest-le cs))

-- a point for each output and for each cell
pub length-points_of : (t : ScanTest) → length (points_of t) ≡ length t.netlist.outputs + length (cells_of t.chains)
length-points_of t =
    rw (
      length-append (map (λ k. Output k) (range_with_len 0 (length t.netlist.outputs))) (flat_map (λ n. cycle n 0 t.chains) (range_with_len 0 (longest t.chains))),
      length-map-range_with_len (λ k. Output k) 0 (length t.netlist.outputs),
    )
    (ap (λ n. length t.netlist.outputs + n) (cells_shown 0 (longest t.chains) t.chains (omega arith)))

below_from_all : (P : ℕ → Type 0) (xs : List ℕ) → All P xs → (q : ℕ) → list_any (eqb q) xs ≡ true → P q
below_from_all P xs all q found = All-contains P xs q all (Contains-from_any {eq = eqb} eqb-true q xs found)

pub outputs_few : (c : Netlist) → IsCircuit c → length c.outputs ≤ 65536
outputs_few c sound = omega (
  arith,
  sound.nets_fit,
  length-le_from_distinct_below c.outputs (length c.nets) sound.outputs_differ
      (below_from_all (λ n. n < length c.nets) c.outputs (λ k d lt. rw (get_or_default c.outputs k d 0 lt) (output_in_range c k sound.netlist lt))),
)

pub cells_few : (c : Netlist) (chains : List Chain) → IsCircuit c → AreChains c chains → length (cells_of chains) ≤ 65536
cells_few c chains sound these = omega (
  arith,
  sound.nets_fit,
  length-le_from_distinct_below (cells_of chains) (length c.nets) these.cells_differ
      (below_from_all (λ n. n < length c.nets) (cells_of chains) (λ k d lt. (these.cells k d lt).0)),
)

pub longest_few : (c : Netlist) (chains : List Chain) → IsCircuit c → AreChains c chains → longest chains ≤ 65536
longest_few c chains sound these = omega (arith, longest-le chains, cells_few c chains sound these)

pub points_few : (t : ScanTest) → IsScanTest t → length (points_of t) ≤ 131072
points_few t sound = omega (arith, length-points_of t, outputs_few t.netlist sound.circuit, cells_few t.netlist t.chains sound.circuit sound.chains)
