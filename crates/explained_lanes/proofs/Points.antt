-- The outputs are the first points, and the others are cells.
use Rattle.std.proofs.Common.{◌≡◌, ℕ, ◌+◌, ◌-◌, ◌<◌, ◌≤◌, true, ltb, ◌&&◌, List, [], ◌∷◌, ◌++◌, length, map, get_or, refl, sym, ap, subst, ◌∙◌, inl, inr, arith}
use Rattle.std.specs.Prelude.{flat_map}
use Rattle.std.specs.List.{range_with_len, AllByRecursion}
use Rattle.std.proofs.lemmas.Bool.{cases_Bool, cases_lt, eq-eqb, eqb-true, and_from, and_parts}
use Rattle.std.proofs.lemmas.List.{get_or_append_left, get_or-append-add, length-append}
use Rattle.std.proofs.lemmas.List.Elements.{All-from_recursion}
use Rattle.std.proofs.lemmas.List.FromFn.{length-map-range_with_len, get_or-map-range_with_len}
use Rattle.scan_model.specs.declared.parts.Chain.{Chain}
use Rattle.scan_model.specs.declared.parts.Point.{Point}
use Rattle.scan_model.specs.declared.parts.Point.TheVariants.{Output, Cell}
use Rattle.scan_model.specs.ScanTest.{ScanTest, cycle, longest, points_of, point_at}
use Rattle.scan_model.specs.Suspect.{is_output}
use Rattle.scan_model.proofs.FanSweeps.{same_answer}
use Rattle.explained_lanes.specs.Fails.{any_fail, fails_at}
use Rattle.explained_lanes.proofs.Ranges.{any_at, any_there}

abbrev IsNoOutput : Point → Type 0
IsNoOutput (Output k) = ⊥
IsNoOutput (Cell h i) = Unit {0}

append : (xs ys : List Point) → AllByRecursion IsNoOutput xs → AllByRecursion IsNoOutput ys → AllByRecursion IsNoOutput (xs ++ ys)
append [] ys a b = b
append (x ∷ xs) ys a b = (a.0, append xs ys a.1 b)

in_cycle : (n h : ℕ) (cs : List Chain) → AllByRecursion IsNoOutput (cycle n h cs)
in_cycle n h [] = tt
in_cycle n h (c ∷ cs) = elim (cases_Bool (ltb n (length c.cells))) [
  | inl shows ↦ rw shows (tt, in_cycle n (h + 1) cs)
  | inr past ↦ rw past (in_cycle n (h + 1) cs)
]

in_cycles : (ns : List ℕ) (cs : List Chain) → AllByRecursion IsNoOutput (flat_map (λ n. cycle n 0 cs) ns)
in_cycles [] cs = tt
in_cycles (n ∷ ns) cs = append (cycle n 0 cs) (flat_map (λ m. cycle m 0 cs) ns) (in_cycle n 0 cs) (in_cycles ns cs)

no_output : (k : ℕ) (p : Point) → IsNoOutput p → is_output k p ≡ true → ⊥
no_output k (Output j) none e = none
no_output k (Cell h i) none e = absurd cc

module _ (t : ScanTest) where
  abbrev outputs : List Point
  outputs = map (λ k. Output k) (range_with_len 0 (length t.netlist.outputs))

  abbrev cells : List Point
  cells = flat_map (λ n. cycle n 0 t.chains) (range_with_len 0 (longest t.chains))

  output_len : length outputs ≡ length t.netlist.outputs
  output_len = length-map-range_with_len (λ k. Output k) 0 (length t.netlist.outputs)

  pub outputs_are_points : length t.netlist.outputs ≤ length (points_of t)
  outputs_are_points = omega (arith, length-append outputs cells, output_len)

  output_at : (k : ℕ) → k < length t.netlist.outputs → point_at t k ≡ Output k
  output_at k lt = get_or_append_left outputs cells (Output 0) k (omega (arith, output_len)) ∙ get_or-map-range_with_len (λ k. Output k) 0 (length t.netlist.outputs) k k (Output 0) lt (omega arith)

  cell_at : (k : ℕ) → length t.netlist.outputs ≤ k → k < length (points_of t) → IsNoOutput (point_at t k)
  cell_at k le lt =
      let i = k - length outputs in
      let place : k ≡ length outputs + i = omega (arith, output_len) in
      let within : i < length cells = omega (arith, output_len, length-append outputs cells) in
      let is : point_at t k ≡ get_or cells i (Output 0) = ap (λ (n : ℕ). get_or (outputs ++ cells) n (Output 0)) place ∙ get_or-append-add outputs cells i (Output 0) in
      subst IsNoOutput (sym is) (All-from_recursion IsNoOutput cells (in_cycles (range_with_len 0 (longest t.chains)) t.chains) i (Output 0) within)

  only_output : (k m : ℕ) → m < length (points_of t) → is_output k (point_at t m) ≡ true → k ≡ m
  only_output k m lt e = elim (cases_lt m (length t.netlist.outputs)) [
    | inl first ↦ eqb-true k m (ap (is_output k) (sym (output_at m first)) ∙ e)
    | inr later ↦ absurd (no_output k (point_at t m) (cell_at m later lt) e)
  ]

  -- the failing bits at an output are those of its own point
  pub output_fails : (fails : List (List ℕ)) (j k : ℕ) → k < length t.netlist.outputs → any_fail t fails j (is_output k) ≡ fails_at fails j k
  output_fails fails j k lt = same_answer (any_fail t fails j (is_output k)) (fails_at fails j k)
      (λ e.
      let p = any_there (λ m. fails_at fails j m && is_output k (point_at t m)) (length (points_of t)) e in
      let both = and_parts (fails_at fails j p.0) (is_output k (point_at t p.0)) p.2 in
      ap (fails_at fails j) (only_output k p.0 p.1 both.1) ∙ both.0)
      (λ e. any_at (λ m. fails_at fails j m && is_output k (point_at t m)) (length (points_of t)) k (omega (arith, outputs_are_points))
      (and_from (fails_at fails j k) (is_output k (point_at t k)) e (ap (is_output k) (output_at k lt) ∙ eq-eqb k k refl)))
