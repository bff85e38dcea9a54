-- One gate evaluated, and how this keeps what is known of a change that spreads.
use Rattle.std.proofs.Common.{◌≡◌, ◌≢◌, ℕ, ◌+◌, ◌<◌, ◌≤◌, Bool, true, false, not, eqb, ◌||◌, ◌&&◌, List, [], ◌∷◌, length, map, get_or, set, Option, Some, None, unwrap_or, refl, sym, ap, subst, ◌∙◌, inl, inr, arith}
use Rattle.std.specs.Prelude.{Contains}
use Rattle.std.specs.List.{list_any, range_with_len}
use Rattle.std.proofs.lemmas.Bool.{cases_Bool, cases_eq, cases_lt, both_ways, eq-eqb, ne_eqb, eqb-true, or_cases, or_left, or_right, and_parts, and_from}
use Rattle.std.proofs.lemmas.List.{get_or-set_same, get_or-set_other, length-set, get_or_default}
use Rattle.std.proofs.lemmas.List.FromFn.{length-range_with_len, get_or-range_with_len}
use Rattle.scan_model.specs.declared.values.Tri.{Tri}
use Rattle.scan_model.specs.declared.values.Tri.TheVariants.{Unknown}
use Rattle.scan_model.specs.declared.circuit.Driver.{Driver}
use Rattle.scan_model.specs.declared.circuit.Driver.TheVariants.{Input, Flop, Gate}
use Rattle.scan_model.specs.Values.{gate_value}
use Rattle.scan_model.specs.Netlist.{Netlist, IsNetlist, reads, is_gate, is_gate_driver, driver_of, operands}
use Rattle.scan_model.specs.Cone.{in_fan_in}
use Rattle.scan_model.specs.NetValue.{Forced, seen, driven, net_node, nothing_forced}
use Rattle.scan_model.proofs.NetValues.{net_node_local}
use Rattle.scan_model.proofs.FanSweeps.{any_found, any_among, in_own}
use Rattle.scan_model.proofs.counting.Branches.{no_loop}
use Rattle.lane_rows.specs.Planes.{Planes}
use Rattle.lane_rows.specs.Planes.{held}
use Rattle.place_sets.specs.Places.{has_place, room}
use Rattle.lane_rows.specs.Wiring.{sinks_of, IsWired, Covers}
use Rattle.packed_sim.specs.declared.scratch.Scratch.{Scratch}
use Rattle.packed_sim.specs.Rows.{row_now, no_row}
use Rattle.packed_sim.specs.Propagation.{lane_now, waits, FitsScratch, IsClosed, IsFree, IsWithin, IsOpen, IsTurn}

-- ---- what the code of a turn does

module _ (c : Netlist) (order : List ℕ) (sinks : List (List ℕ)) (good : List Planes) (place : ℕ) (old new : Scratch) (removed : List ℕ) (row : Planes) where
  abbrev gate : ℕ
  gate = get_or order place 0

  pub turn_of_set : gate < length old.overlay → new.overlay ≡ set old.overlay gate (Some row)
      → ((k : ℕ) → has_place removed k ≡ (not (eqb k place) && has_place old.waiting k))
      → ((k : ℕ) → has_place new.waiting k ≡ (list_any (eqb k) (sinks_of sinks gate) || has_place removed k))
      → room new.waiting ≡ room old.waiting
      → ((n : ℕ) → has_place new.moved n ≡ (eqb n gate || has_place old.moved n))
      → room new.moved ≡ room old.moved
      → ((j : ℕ) → j < 512 → held row j ≡ net_node c (λ n. Unknown) nothing_forced gate (lane_now old.overlay good j))
      → IsTurn c order sinks good place old new
  turn_of_set inside overlay out waiting rooms moved moved_rooms value = record {
    own = ap length overlay ∙ length-set old.overlay gate (Some row);
    room = rooms;
    moved_room = moved_rooms;
    moved = record {
      others = λ n rests. elsewhere n (λ same. both_ways (has_place new.moved n) rests (moved n ∙ or_left (eqb n gate) (has_place old.moved n) (eq-eqb n gate same)));
      kept = λ n was. moved n ∙ or_right (eqb n gate) (has_place old.moved n) was;
    };
    here = λ j lt. ap (λ (own : List (Option Planes)). lane_now own good j gate) overlay
        ∙ ap (λ (o : Option Planes). held (unwrap_or o (get_or good gate no_row)) j) (get_or-set_same old.overlay gate (Some row) None inside)
        ∙ value j lt;
    others = elsewhere;
    taken = λ k is. elim (or_cases (list_any (eqb k) (sinks_of sinks gate)) (has_place removed k) (sym (waiting k) ∙ is)) [
      | inl sink ↦
          let found = any_found (eqb k) (sinks_of sinks gate) sink in
          inr (subst (λ (x : ℕ). Contains (sinks_of sinks gate) x) (sym (eqb-true k found.0 found.2)) found.1)
      | inr before ↦
          let both = and_parts (not (eqb k place)) (has_place old.waiting k) (sym (out k) ∙ before) in
          inl (both.1, not_same (eqb k place) both.0 k refl)
    ];
    kept = λ k other is.
        let stays : has_place removed k ≡ true = out k ∙ and_from (not (eqb k place)) (has_place old.waiting k) (ap not (ne_eqb k place other)) is in
        waiting k ∙ or_right (list_any (eqb k) (sinks_of sinks gate)) (has_place removed k) stays;
    spread = inl (λ k sink. waiting k ∙ or_left (list_any (eqb k) (sinks_of sinks gate)) (has_place removed k) (any_among (eqb k) (sinks_of sinks gate) k sink (eq-eqb k k refl)));
  }
    where
      elsewhere : (n : ℕ) → n ≢ gate → row_now new.overlay good n ≡ row_now old.overlay good n
      elsewhere n other = ap (λ (own : List (Option Planes)). row_now own good n) overlay
          ∙ ap (λ (o : Option Planes). unwrap_or o (get_or good n no_row)) (get_or-set_other old.overlay gate n (Some row) None other)

      not_same : (t : Bool) → not t ≡ true → (k : ℕ) → t ≡ eqb k place → k ≢ place
      not_same true e k is same = cc
      not_same false e k is same = both_ways (eqb k place) (sym is) (eq-eqb k place same)

  -- where the row is as before only the place is taken out; `new` is the scratch with its place taken out of `waiting`
  pub turn_of_same : ((k : ℕ) → has_place removed k ≡ (not (eqb k place) && has_place old.waiting k)) → room removed ≡ room old.waiting
      → ((j : ℕ) → j < 512 → held row j ≡ held (row_now old.overlay good gate) j)
      → ((j : ℕ) → j < 512 → held row j ≡ net_node c (λ n. Unknown) nothing_forced gate (lane_now old.overlay good j))
      → IsTurn c order sinks good place old (record old { waiting = removed })
  turn_of_same out rooms same value = record {
    own = refl;
    room = rooms;
    moved_room = refl;
    moved = record { others = λ n rests. refl; kept = λ n was. was };
    here = λ j lt. sym (same j lt) ∙ value j lt;
    others = λ n other. refl;
    taken = λ k is.
        let both = and_parts (not (eqb k place)) (has_place old.waiting k) (sym (out k) ∙ is) in
        inl (both.1, λ e. both_ways (not (eqb k place)) (ap not (eq-eqb k place e)) both.0);
    kept = λ k other is. out k ∙ and_from (not (eqb k place)) (has_place old.waiting k) (ap not (ne_eqb k place other)) is;
    spread = inr (λ j lt. refl);
  }

-- ---- places and nets that wait

pub waits_from : (order words : List ℕ) (n k : ℕ) → k < length order → get_or order k 0 ≡ n → has_place words k ≡ true → waits order words n ≡ true
waits_from order words n k lt is has =
    let at : get_or (range_with_len 0 (length order)) k k ≡ k = omega (arith, get_or-range_with_len 0 (length order) k k lt) in
    let listed : Contains (range_with_len 0 (length order)) k = (k, omega (arith, length-range_with_len 0 (length order)), at) in
    any_among (λ i. eqb (get_or order i 0) n && has_place words i) (range_with_len 0 (length order)) k listed
    (and_from (eqb (get_or order k 0) n) (has_place words k) (eq-eqb (get_or order k 0) n is) has)

pub waits_at : (order words : List ℕ) (n : ℕ) → waits order words n ≡ true → (k : ℕ) × (k < length order) × (get_or order k 0 ≡ n) × (has_place words k ≡ true)
waits_at order words n some =
    let found = any_found (λ i. eqb (get_or order i 0) n && has_place words i) (range_with_len 0 (length order)) some in
    let at = found.1 in
    let short : at.0 < length order = omega (arith, at.1, length-range_with_len 0 (length order)) in
    let is : at.0 ≡ found.0 = omega (arith, get_or-range_with_len 0 (length order) at.0 found.0 short, at.2) in
    let both = and_parts (eqb (get_or order found.0 0) n) (has_place words found.0) found.2 in
    (found.0, omega (arith, is, short), eqb-true (get_or order found.0 0) n both.0, both.1)

-- ---- a gate that is not forced

free_pins : (c : Netlist) (forced : Forced) (f : ℕ → Tri) (ps : List ℕ) → ((p : ℕ) → forced.pin p ≡ None) → map (seen c forced f) ps ≡ map (seen c nothing_forced f) ps
free_pins c forced f [] free = refl
free_pins c forced f (p ∷ ps) free = let rest = free_pins c forced f ps free in rw (free p, rest) refl

free_driven : (c : Netlist) (source : ℕ → Tri) (forced : Forced) (f : ℕ → Tri) (n : ℕ) (x : Driver) → is_gate_driver x ≡ true → ((p : ℕ) → forced.pin p ≡ None)
    → driven c source forced x f n ≡ driven c (λ m. Unknown) nothing_forced x f n
free_driven c source forced f n Input gate free = absurd cc
free_driven c source forced f n Flop gate free = absurd cc
free_driven c source forced f n (Gate kind) gate free = ap (gate_value kind) (free_pins c forced f (operands c n) free)

pub free_node : (c : Netlist) (source : ℕ → Tri) (forced : Forced) (f : ℕ → Tri) (n : ℕ) → is_gate c n ≡ true → forced.net n ≡ None → ((p : ℕ) → forced.pin p ≡ None)
    → net_node c source forced n f ≡ net_node c (λ m. Unknown) nothing_forced n f
free_node c source forced f n gate net pins = ap (λ (o : Option Tri). unwrap_or o (driven c source forced (driver_of c n) f n)) net ∙ free_driven c source forced f n (driver_of c n) gate pins

-- ---- a turn

module _ (c : Netlist) (order : List ℕ) (sinks : List (List ℕ)) (good : List Planes) (sound : IsNetlist c) (wired : IsWired c order sinks)
    (place : ℕ) (old new : Scratch) (in_order : place < length order) (has : has_place old.waiting place ≡ true) (first : (k : ℕ) → has_place old.waiting k ≡ true → place ≤ k)
    (turn : IsTurn c order sinks good place old new) where
  abbrev g : ℕ
  g = get_or order place 0

  pub fits_next : FitsScratch c order good old → FitsScratch c order good new
  fits_next fits = record {
    own = turn.own ∙ fits.own;
    good_rows = fits.good_rows;
    room = omega (arith, fits.room, turn.room);
    moved_room = omega (arith, fits.moved_room, turn.moved_room);
    places = λ k is. elim (turn.taken k is) [ inl before ↦ fits.places k before.0 | inr sink ↦ (wired.places g k (wired.ordered.gates place in_order).0 sink).0 ];
  }

  -- what is no gate keeps its row
  pub leaf_next : (n : ℕ) → is_gate c n ≡ false → row_now new.overlay good n ≡ row_now old.overlay good n
  leaf_next n leaf = turn.others n (λ same. both_ways (is_gate c n) leaf (ap (is_gate c) same ∙ (wired.ordered.gates place in_order).1))

  pub above_next : (k : ℕ) → has_place new.waiting k ≡ true → place + 1 ≤ k
  above_next k is = elim (turn.taken k is) [
    | inl before ↦ elim (cases_lt place k) [ inl past ↦ omega arith | inr at ↦ absurd (before.1 (omega (arith, first k before.0))) ]
    | inr sink ↦ omega (arith, wired.after place k in_order sink)
  ]

  pub within_next : (behind : ℕ → Bool) → IsClosed c behind → IsWithin order behind old → IsWithin order behind new
  within_next behind closed within k is = elim (turn.taken k is) [
    | inl before ↦ within k before.0
    | inr sink ↦
        let at = wired.places g k (wired.ordered.gates place in_order).0 sink in
        let gate = wired.ordered.gates k at.0 in
        closed (get_or order k 0) g gate.0 gate.1 at.1 (within place has)
  ]

  module _ (live behind : ℕ → Bool) (source : ℕ → Tri) (forced : Forced) (j : ℕ) (lane : j < 512) (covers : Covers c order sinks live) (free : IsFree behind forced) (within : IsWithin order behind old) where
    abbrev before : ℕ → Tri
    before = lane_now old.overlay good j

    abbrev after : ℕ → Tri
    after = lane_now new.overlay good j

    elsewhere : (m : ℕ) → m ≢ g → after m ≡ before m
    elsewhere m other = ap (λ (p : Planes). held p j) (turn.others m other)

    own_node : after g ≡ net_node c source forced g before
    own_node = turn.here j lane ∙ sym (free_node c source forced before g (wired.ordered.gates place in_order).1 (free.nets g (within place has)) free.pins)

    -- a gate does not read itself
    apart : (m : ℕ) → m ≡ g → Contains (reads c g) m → ⊥
    apart m same read =
        let gate = wired.ordered.gates place in_order in
        let own : Contains (reads c g) g = subst (λ (x : ℕ). Contains (reads c g) x) same read in
        both_ways (in_fan_in c g g) (no_loop c order sound wired.ordered g g gate.0 gate.1 own) (in_own c g)

    -- a gate that matters, does not wait and reads the evaluated one saw no change
    unchanged : (n : ℕ) → n < length c.nets → live n ≡ true → is_gate c n ≡ true → waits order new.waiting n ≡ false → Contains (reads c n) g → after g ≡ before g
    unchanged n lt matter gate rests read = elim turn.spread [
      | inr same ↦ same j lane
      | inl all ↦
          let at = wired.ordered.all n lt gate in
          let is : get_or order at.0 0 ≡ n = get_or_default order at.0 0 n at.1 ∙ at.2 in
          let sink : Contains (sinks_of sinks g) at.0 = covers g at.0 at.1 (ap live is ∙ matter) (subst (λ (x : ℕ). Contains (reads c x) g) (sym is) read) in
          absurd (both_ways (waits order new.waiting n) rests (waits_from order new.waiting n at.0 at.1 is (all at.0 sink)))
    ]

    pub open_next : IsOpen c order good source forced live j old → IsOpen c order good source forced live j new
    open_next open' n lt matter = elim (cases_Bool (waits order new.waiting n)) [
      | inl waiting ↦ inl waiting
      | inr rests ↦ inr (elim (cases_eq n g) [
        | inl same ↦
            let at_g : after g ≡ net_node c source forced g after = own_node ∙ net_node_local c source forced g before after (λ m gate read. elim (cases_eq m g) [
              | inl is ↦ absurd (apart m is read)
              | inr other ↦ sym (elsewhere m other)
            ]) in
            ap after same ∙ at_g ∙ ap (λ (k : ℕ). net_node c source forced k after) (sym same)
        | inr differs ↦ elim (open' n lt matter) [
          | inl waited ↦
              let at = waits_at order old.waiting n waited in
              let other : at.0 ≢ place = λ e. differs (sym at.2 ∙ ap (λ (k : ℕ). get_or order k 0) e) in
              absurd (both_ways (waits order new.waiting n) rests (waits_from order new.waiting n at.0 at.1 at.2 (turn.kept at.0 other at.3)))
          | inr meets ↦ elsewhere n differs ∙ meets ∙ net_node_local c source forced n before after (λ m gate read. elim (cases_eq m g) [
            | inl is ↦
                let reads_g : Contains (reads c n) g = subst (λ (x : ℕ). Contains (reads c n) x) is read in
                ap before is ∙ sym (unchanged n lt matter gate rests reads_g) ∙ ap after (sym is)
            | inr other ↦ sym (elsewhere m other)
          ])
        ]
      ])
    ]
