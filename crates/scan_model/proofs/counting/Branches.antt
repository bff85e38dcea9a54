-- A forced pin of a gate is the gate's net forced.
use Rattle.std.proofs.Common.{◌≡◌, ◌≢◌, ℕ, zero, suc, ◌+◌, ◌<◌, ◌≤◌, true, false, cond, eqb, List, length, map, get_or, Some, None, refl, sym, ap, subst, ◌∙◌, inl, inr, arith}
use Rattle.std.specs.Prelude.{Contains}
use Rattle.std.specs.List.{range_with_len}
use Rattle.std.proofs.lemmas.Bool.{cases_Bool, cases_eq, both_ways, eq-eqb, ne_eqb, eqb-true}
use Rattle.std.proofs.lemmas.List.{get_or_default}
use Rattle.scan_model.specs.declared.values.Tri.{Tri}
use Rattle.scan_model.specs.declared.circuit.Driver.{Driver}
use Rattle.scan_model.specs.declared.circuit.Driver.TheVariants.{Input, Flop, Gate}
use Rattle.scan_model.specs.declared.circuit.GateKind.{GateKind}
use Rattle.scan_model.specs.declared.circuit.PinPlace.{PinPlace}
use Rattle.scan_model.specs.declared.circuit.PinPlace.TheVariants.{Operand, Output}
use Rattle.scan_model.specs.Values.{gate_value}
use Rattle.scan_model.specs.Netlist.{Netlist, IsNetlist, reads, is_gate, is_gate_driver, driver_of, net_at, pin_at, operands}
use Rattle.scan_model.specs.Walks.{IsEvaluationOrder}
use Rattle.scan_model.specs.Cone.{in_fan_in}
use Rattle.scan_model.specs.NetValue.{Forced, seen, net_node, driven, values_of, nothing_forced}
use Rattle.scan_model.proofs.Along.{in_front}
use Rattle.scan_model.proofs.NetValues.{values_of-is, net_node_local}
use Rattle.scan_model.proofs.FanSweeps.{reads_in_range}
use Rattle.scan_model.proofs.FanSweeps as sweeps
use Rattle.scan_model.specs.Force.{force}
use Rattle.scan_model.proofs.counting.Valuations.{agree_apart, values_meet, valuation_is}

abbrev pub force_pin : ℕ → Tri → Forced
force_pin p v = record { net = λ n. None; pin = λ q. cond (eqb q p) (Some v) None }

-- the net that a place belongs to
abbrev owner : PinPlace → ℕ
owner (Operand n i) = n
owner (Output k) = 0

module _ (c : Netlist) (order : List ℕ) (sound : IsNetlist c) (ordered : IsEvaluationOrder c order) where
  -- what leads to a gate of the order stands at or before it, or is no gate
  stands_before : (n k i : ℕ) → is_gate c n ≡ true → i < k → k ≤ length order → in_fan_in c n (get_or order i 0) ≡ true → (j : ℕ) × (j < k) × (j ≤ i) × (get_or order j 0 ≡ n)
  stands_before n zero i gate lt le in' = absurd (omega arith)
  stands_before n (suc k) i gate lt le in' =
      let here = ordered.gates i (omega arith) in
      elim (sweeps.in_cases c order sound ordered n (get_or order i 0) here.0 in') [
        | inl is ↦ (i, lt, omega arith, is)
        | inr read ↦
            let r = read.1 in
            elim (cases_Bool (is_gate c r.0)) [
              | inl inner ↦
                  let at = in_front order i r.0 (omega arith) (ordered.after_read i r.0 (omega arith) r.1 inner) in
                  let before = stands_before n k at.0 gate (omega (arith, at.1)) (omega arith) (ap (in_fan_in c n) at.2 ∙ r.2) in
                  (before.0, omega (arith, before.1), omega (arith, before.2, at.1), before.3)
              | inr leaf ↦ absurd (both_ways (is_gate c r.0) leaf (ap (is_gate c) (leaf_is r.0 leaf r.1 r.2) ∙ gate))
            ]
      ]
    where
      leaf_is : (r : ℕ) → is_gate c r ≡ false → Contains (reads c (get_or order i 0)) r → in_fan_in c n r ≡ true → r ≡ n
      leaf_is r leaf read inside =
          let lt' : r < length c.nets = reads_in_range c (get_or order i 0) r sound (ordered.gates i (omega arith)).0 read in
          elim (sweeps.in_cases c order sound ordered n r lt' inside) [ inl same ↦ same | inr rest ↦ absurd (both_ways (is_gate c r) leaf rest.0) ]

  -- no gate leads to what it reads
  descends : (n r k : ℕ) → is_gate c n ≡ true → Contains (reads c n) r → in_fan_in c n r ≡ true → (i : ℕ) → i < k → k ≤ length order → get_or order i 0 ≡ n → ⊥
  descends n r zero gate read in' i lt le is = omega arith
  descends n r (suc k) gate read in' i lt le is =
      let here = ordered.gates i (omega arith) in
      let read' : Contains (reads c (get_or order i 0)) r = subst (λ (m : ℕ). Contains (reads c m) r) (sym is) read in
      elim (cases_Bool (is_gate c r)) [
        | inl inner ↦
            let at = in_front order i r (omega arith) (ordered.after_read i r (omega arith) read' inner) in
            let before = stands_before n (suc k) at.0 gate (omega (arith, at.1)) le (ap (in_fan_in c n) at.2 ∙ in') in
            descends n r k gate read in' before.0 (omega (arith, before.2, at.1)) (omega arith) before.3
        | inr leaf ↦
            let lt' : r < length c.nets = reads_in_range c (get_or order i 0) r sound here.0 read' in
            elim (sweeps.in_cases c order sound ordered n r lt' in') [
              | inl same ↦ both_ways (is_gate c r) leaf (ap (is_gate c) same ∙ gate)
              | inr rest ↦ both_ways (is_gate c r) leaf rest.0
            ]
      ]

  pub no_loop : (n r : ℕ) → n < length c.nets → is_gate c n ≡ true → Contains (reads c n) r → in_fan_in c n r ≡ false
  no_loop n r lt gate read = elim (cases_Bool (in_fan_in c n r)) [
    | inl inside ↦
        let at = ordered.all n lt gate in
        let e : get_or order at.0 0 ≡ n = get_or_default order at.0 0 n at.1 ∙ at.2 in
        absurd (descends n r (length order) gate read inside at.0 at.1 (omega arith) e)
    | inr outside ↦ outside
  ]

  module _ (s : ℕ → Tri) (p n i : ℕ) (v : Tri) (kind : GateKind) (in_range : n < length c.nets) (place : (pin_at c p).place ≡ Operand n i) (drives : driver_of c n ≡ Gate kind) where
    abbrev pub F : Forced
    F = force_pin p v

    abbrev pub good : ℕ → Tri
    good = values_of c s nothing_forced

    abbrev pub forced_output : Tri
    forced_output = gate_value kind (map (seen c F good) (operands c n))

    is_one : is_gate c n ≡ true
    is_one = ap is_gate_driver drives

    other_pin : (k j : ℕ) → k < length c.nets → k ≢ n → j < (net_at c k).pin_count → ((net_at c k).first_pin + j) ≢ p
    other_pin k j lt other below same =
        let at = sound.operand_places k j lt below in
        other (sym (ap owner at) ∙ ap (λ (q : ℕ). owner (pin_at c q).place) same ∙ ap owner place)

    unforced : (f : ℕ → Tri) (first count : ℕ) → ((j : ℕ) → j < count → (first + j) ≢ p) → map (seen c F f) (range_with_len first count) ≡ map (seen c nothing_forced f) (range_with_len first count)
    unforced f first zero apart = refl
    unforced f first (suc count) apart =
        let here : first ≢ p = λ same. apart 0 (omega arith) (omega (arith, same)) in
        let rest = unforced f (first + 1) count (λ j lt same. apart (suc j) (omega arith) (omega (arith, same))) in
        rw (ne_eqb first p here, rest) refl

    elsewhere : (k : ℕ) → k < length c.nets → k ≢ n → (f : ℕ → Tri) → net_node c s F k f ≡ driven c s nothing_forced (driver_of c k) f k
    elsewhere k lt other f = go (driver_of c k)
      where
        go : (x : Driver) → driven c s F x f k ≡ driven c s nothing_forced x f k
        go Input = refl
        go Flop = refl
        go (Gate kd) = ap (gate_value kd) (unforced f (net_at c k).first_pin (net_at c k).pin_count (λ j below. other_pin k j lt other below))

    -- what the gate reads has its fault-free value
    reads_good : (m : ℕ) → Contains (reads c n) m → values_of c s F m ≡ good m
    reads_good m read =
        agree_apart c order sound ordered s s F nothing_forced (λ k. eqb k n) (values_of c s F) good (values_meet c order sound ordered s F) (values_meet c order sound ordered s nothing_forced)
        (λ k lt no u. elsewhere k lt (λ same. both_ways (eqb k n) no (eq-eqb k n same)) u)
        m (reads_in_range c n m sound in_range read) (λ k hit. ap (λ (x : ℕ). in_fan_in c x m) (eqb-true k n hit) ∙ no_loop n m in_range is_one read)

    pub branch_is_force : (m : ℕ) → m < length c.nets → values_of c s F m ≡ values_of c s (force n forced_output) m
    branch_is_force m lt = valuation_is c order sound ordered s (force n forced_output) (values_of c s F) (λ k in'. elim (cases_eq k n) [
      | inl is ↦
          let at_n : values_of c s F n ≡ forced_output =
          values_of-is c order s F ordered n in_range
          ∙ net_node_local c s F n (values_of c s F) good (λ q gate read. reads_good q read)
          ∙ ap (λ (x : Driver). driven c s F x good n) drives in
          rw (eq-eqb k n is) (ap (values_of c s F) is ∙ at_n)
      | inr other ↦ rw (ne_eqb k n other) (values_of-is c order s F ordered k in' ∙ elsewhere k in' other (values_of c s F))
    ]) m lt
