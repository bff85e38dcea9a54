-- Evaluating gate by gate along an order gives the values of the nets, in each lane.
use Rattle.std.proofs.Common.{◌≡◌, ◌≢◌, ℕ, ◌+◌, ◌<◌, ◌≤◌, false, List, length, get_or, set, take, sym, ap, ◌∙◌, inl, inr, arith}
use Rattle.std.specs.Prelude.{Contains}
use Rattle.std.proofs.lemmas.Bool.{cases_Bool, cases_eq, both_ways}
use Rattle.std.proofs.lemmas.List.{length-set, get_or-set_same, get_or-set_other, take_more, take_all}
use Rattle.std.proofs.lemmas.List.Elements.{Contains-push_cases}
use Rattle.scan_model.specs.declared.values.Tri.TheVariants.{Unknown}
use Rattle.scan_model.specs.Netlist.{Netlist, IsNetlist, is_gate, driver_of}
use Rattle.scan_model.specs.Walks.{IsEvaluationOrder}
use Rattle.scan_model.specs.NetValue.{values_of, net_node, nothing_forced}
use Rattle.scan_model.proofs.NetValues.{values_of-is, net_node_local, driven_leaf, driven_gate}
use Rattle.scan_model.proofs.FanSweeps.{reads_in_range}
use Rattle.value_rows.specs.Planes.{Planes, held}
use Rattle.lane_rows.specs.Sources.{lane_values, no_planes}

-- after k gates the values of these and of inputs and flops are known in each lane
pub record AreKnown (c : Netlist) (order : List ℕ) (sources : List Planes) (k : ℕ) (rows : List Planes) : Type 0 where
  pub len : length rows ≡ length c.nets
  pub leaf : (j n : ℕ) → j < 512 → n < length c.nets → is_gate c n ≡ false → lane_values rows j n ≡ values_of c (lane_values sources j) nothing_forced n
  pub done : (j n : ℕ) → j < 512 → n < length c.nets → Contains (take k order) n → lane_values rows j n ≡ values_of c (lane_values sources j) nothing_forced n

pub known_none : (c : Netlist) (order : List ℕ) (sources : List Planes) → IsEvaluationOrder c order → length sources ≡ length c.nets → AreKnown c order sources 0 sources
known_none c order sources ordered len = record {
  len = len;
  leaf = λ j n lj lt no_gate.
      let source = lane_values sources j in
      sym (values_of-is c order source nothing_forced ordered n lt ∙ driven_leaf c source nothing_forced n (values_of c source nothing_forced) (driver_of c n) no_gate);
  done = λ j n lj lt in'. absurd (omega (arith, in'.1));
}

pub known_more : (c : Netlist) (order : List ℕ) (sources : List Planes) (k : ℕ) (rows : List Planes) (row : Planes) → IsNetlist c → IsEvaluationOrder c order → k < length order
    → AreKnown c order sources k rows → ((j : ℕ) → j < 512 → held row j ≡ net_node c (λ n. Unknown) nothing_forced (get_or order k 0) (lane_values rows j))
    → AreKnown c order sources (k + 1) (set rows (get_or order k 0) row)
known_more c order sources k rows row sound ordered lt known is =
    let g = get_or order k 0 in
    let here = ordered.gates k lt in
    let V = λ (j : ℕ). values_of c (lane_values sources j) nothing_forced in
    let right : (j : ℕ) → j < 512 → held row j ≡ V j g = λ j lj.
    is j lj
    ∙ driven_gate c (λ n. Unknown) (lane_values sources j) nothing_forced g (lane_values rows j) (driver_of c g) here.1
    ∙ net_node_local c (lane_values sources j) nothing_forced g (lane_values rows j) (V j) (λ m gate read. elim (cases_Bool (is_gate c m)) [
      | inl is_one ↦ known.done j m lj (reads_in_range c g m sound here.0 read) (ordered.after_read k m lt read is_one)
      | inr leaf ↦ known.leaf j m lj (reads_in_range c g m sound here.0 read) leaf
    ])
    ∙ sym (values_of-is c order (lane_values sources j) nothing_forced ordered g here.0) in
    record {
      len = length-set rows g row ∙ known.len;
      leaf = λ j n lj in_range leaf.
          let other : n ≢ g = λ same. both_ways (is_gate c g) (ap (is_gate c) (sym same) ∙ leaf) here.1 in
          ap (λ p. held p j) (get_or-set_other rows g n row no_planes other) ∙ known.leaf j n lj in_range leaf;
      done = λ j n lj in_range in'. elim (cases_eq n g) [
        | inl same ↦ ap (λ (m : ℕ). lane_values (set rows g row) j m) same ∙ ap (λ p. held p j) (get_or-set_same rows g row no_planes (omega (arith, known.len, here.0))) ∙ right j lj ∙ ap (V j) (sym same)
        | inr other ↦
            let before : Contains (take k order) n = elim (Contains-push_cases (take k order) g n (rw (take_more order k 0 lt) at in')) [ inl earlier ↦ earlier | inr same ↦ absurd (other (sym same)) ] in
            ap (λ p. held p j) (get_or-set_other rows g n row no_planes other) ∙ known.done j n lj in_range before
      ];
    }

pub known_all : (c : Netlist) (order : List ℕ) (sources : List Planes) (k : ℕ) (rows : List Planes) → IsEvaluationOrder c order → length order ≤ k → AreKnown c order sources k rows
    → (j n : ℕ) → j < 512 → n < length c.nets → lane_values rows j n ≡ values_of c (lane_values sources j) nothing_forced n
known_all c order sources k rows ordered le known j n lj lt = elim (cases_Bool (is_gate c n)) [
  | inl gate ↦ known.done j n lj lt (rw (take_all k order le) (ordered.all n lt gate))
  | inr leaf ↦ known.leaf j n lj lt leaf
]

-- what is no gate stays
pub leaf_stays : (c : Netlist) (order : List ℕ) (sources : List Planes) (k : ℕ) (rows : List Planes) → IsEvaluationOrder c order → AreKnown c order sources k rows
    → (j n : ℕ) → j < 512 → n < length c.nets → is_gate c n ≡ false → lane_values rows j n ≡ lane_values sources j n
leaf_stays c order sources k rows ordered known j n lj lt no_gate =
    let source = lane_values sources j in
    known.leaf j n lj lt no_gate ∙ values_of-is c order source nothing_forced ordered n lt ∙ driven_leaf c source nothing_forced n (values_of c source nothing_forced) (driver_of c n) no_gate
