-- The frame of a test is sound over any points that are its outputs and cells of chains, and the points of a test are that.
use Rattle.std.proofs.Common.{◌≡◌, ℕ, ◌+◌, ◌-◌, ◌<◌, ◌≤◌, false, List, [], length, map, get_or, replicate, sym, ◌∙◌, inl, inr, arith}
use Rattle.std.specs.Prelude.{flat_map, bytes_eq, nat_eq}
use Rattle.std.specs.List.{range_with_len, IsDistinct}
use Rattle.std.specs.Cmp.Lexicographic.{nat_list_eq_equiv}
use Rattle.std.proofs.lemmas.Bool.{cases_lt, both_ways, eq-eqb}
use Rattle.std.proofs.lemmas.List.{get_or-map, length-map, length-append, get_or_default, get_or_append_left, length-replicate}
use Rattle.std.proofs.lemmas.List.Elements.{All-weaker}
use Rattle.std.proofs.lemmas.List.FromFn.{get_or-map-range_with_len, length-map-range_with_len}
use Rattle.std.proofs.lemmas.Map.Keys.{apart_from_distinct, IsDistinct-from_apart}
use Rattle.scan_model.specs.declared.parts.Point.{Point}
use Rattle.scan_model.specs.declared.parts.Point.TheVariants.{Output, Cell}
use Rattle.scan_model.specs.Netlist.{no_net}
use Rattle.scan_model.specs.ScanTest.{ScanTest, IsScanTest, IsPoint, no_chain, chain_at, name_of, cycle, longest, points_of}
use Rattle.scan_model.specs.declared.logs.LogForm.{LogForm}
use Rattle.scan_model.specs.LogText.{LogFrame, is_shift}
use Rattle.scan_model.proofs.Outputs.{output_in_range}
use Rattle.scan_model.proofs.Points.{points_are_points}
use Rattle.fail_logs.specs.BitNumbers.{place_in}
use Rattle.fail_logs.specs.Places.{places_in}
use Rattle.fail_logs.specs.FrameFacts.{IsFrame, IsPointIn, IsPointOf, ArePoints, frame_with}
use Rattle.fail_logs.proofs.TestOrder.{cell_stands, points_differ}
use Rattle.fail_logs.proofs.CellTable.{HasCell, place_is}
use Rattle.fail_logs.proofs.NamedPoints.{within}

-- names at two places differ
names_apart : (ns : List (List ℕ)) (i j : ℕ) → IsDistinct bytes_eq ns → i < length ns → j < length ns → (i ≡ j → ⊥) → bytes_eq (get_or ns i []) (get_or ns j []) ≡ false
names_apart ns i j differ i_lt j_lt other = elim (cases_lt i j) [
  | inl lt ↦ apart_from_distinct bytes_eq ns i j [] differ lt j_lt
  | inr le ↦ nat_list_eq_equiv.symm (get_or ns i []) (get_or ns j []) ∙ apart_from_distinct bytes_eq ns j i [] differ (omega (arith, other)) i_lt
]

outputs_apart : (t : ScanTest) → IsScanTest t → IsDistinct bytes_eq (map (name_of t) t.netlist.outputs)
outputs_apart t sound = IsDistinct-from_apart bytes_eq (map (name_of t) t.netlist.outputs) (λ i j d lt j_in.
    let outputs : List ℕ = t.netlist.outputs in
    let names : List (List ℕ) = map (λ n. n.name) t.netlist.nets in
    let n : length (map (name_of t) outputs) ≡ length outputs = length-map outputs (name_of t) in
    let net : (k : ℕ) → k < length outputs → get_or outputs k 0 < length t.netlist.nets = λ k h. output_in_range t.netlist k sound.circuit.netlist h in
    let name : (k : ℕ) → k < length outputs → get_or (map (name_of t) outputs) k d ≡ get_or names (get_or outputs k 0) [] = λ k h.
    get_or-map (name_of t) outputs k 0 d h ∙ sym (get_or-map (λ n. n.name) t.netlist.nets (get_or outputs k 0) no_net [] (net k h)) in
    let all : length names ≡ length t.netlist.nets = length-map t.netlist.nets (λ n. n.name) in
    let j_lt : j < length outputs = omega arith in
    let i_lt : i < length outputs = omega arith in
    let other : get_or outputs i 0 ≡ get_or outputs j 0 → ⊥ = λ same. both_ways (nat_eq (get_or outputs i 0) (get_or outputs j 0)) (apart_from_distinct nat_eq outputs i j 0 sound.circuit.outputs_differ lt j_lt) (eq-eqb _ _ same) in
    rw (name i i_lt, name j j_lt) (names_apart names (get_or outputs i 0) (get_or outputs j 0) sound.circuit.names_differ (omega (arith, net i i_lt)) (omega (arith, net j j_lt)) other))

module _ (t : ScanTest) where
  outputs_lead : (k : ℕ) → k < length t.netlist.outputs → (k < length (points_of t)) × (get_or (points_of t) k (Output 0) ≡ Output k)
  outputs_lead k lt =
      let n : ℕ = length t.netlist.outputs in
      let front : List Point = map (λ k. Output k) (range_with_len 0 n) in
      let cells : List Point = flat_map (λ m. cycle m 0 t.chains) (range_with_len 0 (longest t.chains)) in
      let count : length front ≡ n = length-map-range_with_len (λ k. Output k) 0 n in
      (omega (arith, length-append front cells), get_or_append_left front cells (Output 0) k (omega arith) ∙ get_or-map-range_with_len (λ k. Output k) 0 n k k (Output 0) lt (omega arith))

  abbrev lengths : List ℕ
  lengths = map (λ h. length h.cells) t.chains

  length_at : (h : ℕ) → h < length t.chains → get_or lengths h 0 ≡ length (chain_at t h).cells
  length_at h lt = get_or-map (λ h. length h.cells) t.chains h no_chain 0 lt

  point_of_test : (s : Point) → IsPoint t s → IsPointOf (length t.netlist.outputs) (length lengths) s
  point_of_test (Output k) is = is
  point_of_test (Cell h i) is = omega (arith, length-map t.chains (λ h. length h.cells), is.0)

  pub test_points : ArePoints (length t.netlist.outputs) lengths (points_of t)
  test_points = record {
    outputs_first = outputs_lead;
    cells = λ h i lt.
        let h_lt : h < length t.chains = omega (arith, within lengths h i lt, length-map t.chains (λ h. length h.cells)) in
        cell_stands t h i h_lt (omega (arith, length_at h h_lt, lt));
    within = All-weaker (IsPoint t) (IsPointOf (length t.netlist.outputs) (length lengths)) point_of_test (points_of t) (points_are_points t);
    differ = λ j k. points_differ t j k (Output 0);
  }

module _ (outputs : ℕ) (lengths : List ℕ) (points : List Point) (are : ArePoints outputs lengths points) where
  abbrev blank : List (List ℕ)
  blank = map (λ n. replicate n 0) lengths

  has_cell : (h i : ℕ) → i < get_or lengths h 0 → HasCell blank h i
  has_cell h i lt =
      let in_lengths : h < length lengths = within lengths h i lt in
      record {
        row = omega (arith, length-map lengths (λ (n : ℕ). replicate {A = ℕ} n 0), in_lengths);
        pos = rw (get_or-map (λ (n : ℕ). replicate {A = ℕ} n 0) lengths h 0 [] in_lengths, length-replicate {A = ℕ} (get_or lengths h 0) 0) lt;
      }

  -- the place of each cell stands in its row
  pub cells_at : (h i : ℕ) → i < get_or lengths h 0 → (place_in (places_in blank 0 points) h i < length points) × (get_or points (place_in (places_in blank 0 points) h i) (Output 0) ≡ Cell h i)
  cells_at h i lt =
      let at = are.cells h i lt in
      let here : get_or points at.0 (Output 0) ≡ Cell h i = get_or_default points at.0 (Output 0) (Cell h i) at.1 ∙ at.2 in
      let sum : 0 + at.0 ≡ at.0 = omega arith in
      let place : place_in (places_in blank 0 points) h i ≡ at.0 = place_is points blank 0 h i at.0 (has_cell h i lt) at.1 here are.differ ∙ sum in
      rw place (at.1, here)

module _ (t : ScanTest) (sound : IsScanTest t) (form : LogForm) (names : List (List ℕ)) (lengths : List ℕ) (points : List Point) (design die : List ℕ)
    (differ : IsDistinct bytes_eq names) (same : length lengths ≡ length names) (few : length names ≤ 256) (are : ArePoints (length t.netlist.outputs) lengths points) (few_points : length points ≤ 131072) where
  abbrev frame : LogFrame
  frame = frame_with t form names lengths points design die

  few_outputs : length t.netlist.outputs ≤ 131072
  few_outputs = elim (cases_lt 0 (length t.netlist.outputs)) [
    | inl some ↦ omega (arith, (are.outputs_first (length t.netlist.outputs - 1) (omega arith)).0)
    | inr none ↦ omega arith
  ]

  point_in_frame : (s : Point) → IsPointOf (length t.netlist.outputs) (length lengths) s → IsPointIn frame s
  point_in_frame (Output k) is = omega (arith, length-map t.netlist.outputs (name_of t), is)
  point_in_frame (Cell h i) is = omega (arith, same, is)

  pub frame_is_sound : IsFrame frame (places_in (map (λ n. replicate n 0) lengths) 0 points)
  frame_is_sound = record {
    outputs_differ = outputs_apart t sound;
    chains_differ = differ;
    lengths = same;
    outputs = λ k lt. are.outputs_first k (omega (arith, length-map t.netlist.outputs (name_of t)));
    cells = cells_at (length t.netlist.outputs) lengths points are;
    points = All-weaker (IsPointOf (length t.netlist.outputs) (length lengths)) (IsPointIn frame) point_in_frame points are.within;
    points_differ = are.differ;
    few_outputs = omega (arith, length-map t.netlist.outputs (name_of t), few_outputs);
    few_chains = few;
    few_points = few_points;
    few_patterns = omega (arith, length-map t.patterns is_shift, sound.patterns.few);
  }
