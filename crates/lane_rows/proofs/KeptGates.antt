-- What is kept of gates, and the part of a list that is kept for each.
use Rattle.std.proofs.Common.{◌≡◌, ℕ, ◌+◌, ◌-◌, ◌<◌, ◌≤◌, true, List, All, length, map, take, drop, get_or, slice_range, refl, sym, ap, ◌∙◌, subst, inl, inr, arith}
use Rattle.std.specs.Prelude.{Contains}
use Rattle.std.specs.List.{range_with_len}
use Rattle.std.proofs.lemmas.Bool.{cases_lt}
use Rattle.std.proofs.lemmas.List.{length-map, take-map, drop-map, get_or-map, get_or_past, get_or_read}
use Rattle.std.proofs.lemmas.List.Elements.{Contains-get_or}
use Rattle.std.proofs.lemmas.List.FromFn.{length-map-range_with_len}
use Rattle.std.proofs.lemmas.Simd.{map-map, pick_l-range_with_len}
use Rattle.scan_model.specs.declared.circuit.Net.{Net}
use Rattle.scan_model.specs.declared.circuit.Pin.{Pin}
use Rattle.scan_model.specs.declared.circuit.Driver.{Driver}
use Rattle.scan_model.specs.declared.circuit.Driver.TheVariants.{Gate, Input, Flop}
use Rattle.scan_model.specs.declared.circuit.GateKind.{GateKind}
use Rattle.scan_model.specs.declared.values.Tri.{Tri}
use Rattle.scan_model.specs.declared.values.Tri.TheVariants.{Unknown}
use Rattle.scan_model.specs.Values.{gate_value}
use Rattle.scan_model.specs.Netlist.{Netlist, IsNetlist, IsGateOperandCount, IsOperandCount, net_at, no_net, no_pin, pin_at, driver_of, operands, reads, is_gate_driver}
use Rattle.scan_model.specs.Walks.{IsEvaluationOrder}
use Rattle.scan_model.specs.NetValue.{net_node, driven, nothing_forced}
use Rattle.scan_model.proofs.FanSweeps.{reads_in_range}
use Rattle.lane_rows.specs.declared.kept_gates.KeptGate.{KeptGate}
use Rattle.lane_rows.specs.Wiring.{IsKept, AreKept, kept_gate, kind_of, no_gate, pin_nets, read_nets}

-- a part of a list, as what stands at its places
part_is : {A : Type 0} (d : A) (xs : List A) (first count : ℕ) → first + count ≤ length xs → slice_range xs first (first + count) ≡ map (λ i. get_or xs i d) (range_with_len first count)
part_is d xs first count within =
    let size : (first + count) - first ≡ count = omega arith in
    ap (λ (n : ℕ). take n (drop first xs)) size ∙ sym (pick_l-range_with_len d xs first count within)

part-map : {A B : Type 0} (f : A → B) (xs : List A) (start end : ℕ) → slice_range (map f xs) start end ≡ map f (slice_range xs start end)
part-map f xs start end = ap (take (end - start)) (drop-map f start xs) ∙ take-map f (end - start) (drop start xs)

abbrev driven_by : Netlist → Driver → ℕ → (ℕ → Tri) → Tri
driven_by c d gate value = driven c (λ n. Unknown) nothing_forced d value gate

module _ (c : Netlist) (gate : ℕ) (within : (net_at c gate).first_pin + (net_at c gate).pin_count ≤ length c.pins) where
  -- over the pins of a gate
  pub of_pins : {B : Type 0} (f : Pin → B) → map f (slice_range c.pins (net_at c gate).first_pin ((net_at c gate).first_pin + (net_at c gate).pin_count)) ≡ map (λ p. f (pin_at c p)) (operands c gate)
  of_pins f = ap (map f) (part_is no_pin c.pins (net_at c gate).first_pin (net_at c gate).pin_count within) ∙ map-map f (pin_at c) (operands c gate)

  -- the nets that its pins see
  pub reads_are : slice_range (pin_nets c) (net_at c gate).first_pin ((net_at c gate).first_pin + (net_at c gate).pin_count) ≡ reads c gate
  reads_are = part-map (λ (pin : Pin). pin.net) c.pins (net_at c gate).first_pin ((net_at c gate).first_pin + (net_at c gate).pin_count) ∙ of_pins (λ pin. pin.net)

-- ---- what is kept of a gate is read off its net

module _ (c : Netlist) (sound : IsNetlist c) (gate : ℕ) (lt : gate < length c.nets) where
  pins_within : (net_at c gate).first_pin + (net_at c gate).pin_count ≤ length c.pins
  pins_within = sound.operand_range gate lt

  pub kept_of : (net : Net) (kind : GateKind) → net ≡ net_at c gate → net.driver ≡ Gate kind → IsKept c (pin_nets c) gate record { net = gate; kind = kind; first = net.first_pin; count = net.pin_count }
  kept_of net kind is driven = rw is (record {
    net = refl;
    kind = rw is at driven;
    within = rw (length-map c.pins (λ pin. pin.net)) pins_within;
    reads_are = reads_are c gate pins_within;
  })

  -- the value of the gate, over its pins
  pub node_of_pins : (net : Net) (pins : List Pin) (kind : GateKind) (value : ℕ → Tri) → net ≡ net_at c gate → pins ≡ c.pins → net.driver ≡ Gate kind
      → gate_value kind (map (λ pin. value pin.net) (slice_range pins net.first_pin (net.first_pin + net.pin_count))) ≡ net_node c (λ n. Unknown) nothing_forced gate value
  node_of_pins net pins kind value is all driven =
      let driver : driver_of c gate ≡ Gate kind = rw is at driven in
      rw (is, all) (ap (gate_value kind) (of_pins c gate pins_within (λ pin. value pin.net)) ∙ ap (λ (d : Driver). driven_by c d gate value) (sym driver))

-- ---- what is kept of all gates of an order

kind_is : (x : Driver) → is_gate_driver x ≡ true → x ≡ Gate (kind_of x)
kind_is Input e = absurd cc
kind_is Flop e = absurd cc
kind_is (Gate kind) e = refl

pub all_kept : (c : Netlist) (order : List ℕ) → IsNetlist c → IsEvaluationOrder c order → AreKept c order (map (kept_gate c.nets) order) (pin_nets c)
all_kept c order sound ordered = record {
  count = length-map order (kept_gate c.nets);
  each = λ k lt.
      let gate = get_or order k 0 in
      let here = ordered.gates k lt in
      subst (λ (kept : KeptGate). IsKept c (pin_nets c) gate kept) (sym (get_or-map (kept_gate c.nets) order k 0 no_gate lt))
      (kept_of c sound gate here.0 (net_at c gate) (kind_of (driver_of c gate)) refl (kind_is (driver_of c gate) here.1));
}

-- ---- the row of a gate

driven_in_range : (c : Netlist) (n : ℕ) (kind : GateKind) → driver_of c n ≡ Gate kind → n < length c.nets
driven_in_range c n kind is = elim (cases_lt n (length c.nets)) [
  | inl below ↦ below
  | inr above ↦
      let past : driver_of c n ≡ Input = ap (λ net. net.driver) (get_or_past c.nets n no_net above) in
      cc
]

-- what stands at a place
pub kept_at : (c : Netlist) (order : List ℕ) (gates : List KeptGate) (nets : List ℕ) (k : ℕ) (kept : KeptGate) → AreKept c order gates nets → k < length order → kept ≡ get_or gates k kept
    → IsKept c nets (get_or order k 0) kept
kept_at c order gates nets k kept all lt read = subst (λ (g : KeptGate). IsKept c nets (get_or order k 0) g) (sym (get_or_read gates k kept (omega (arith, all.count)) read no_gate)) (all.each k lt)

module _ (c : Netlist) (sound : IsNetlist c) (order : List ℕ) (gates : List KeptGate) (nets : List ℕ) (all : AreKept c order gates nets)
    (k : ℕ) (lt : k < length order) (kept : KeptGate) (read : kept ≡ get_or gates k kept) where
  abbrev gate : ℕ
  gate = get_or order k 0

  is : IsKept c nets gate kept
  is = kept_at c order gates nets k kept all lt read

  in_range : gate < length c.nets
  in_range = driven_in_range c gate kept.kind is.kind

  pub reads_there : All (λ n. n < length c.nets) (read_nets nets kept)
  reads_there i d inside = reads_in_range c gate (get_or (read_nets nets kept) i d) sound in_range (subst (λ (ns : List ℕ). Contains ns (get_or (read_nets nets kept) i d)) is.reads_are (Contains-get_or (read_nets nets kept) i d inside))

  pub reads_count : IsGateOperandCount kept.kind (length (read_nets nets kept))
  reads_count =
      let some : IsOperandCount (Gate kept.kind) (net_at c gate).pin_count = subst (λ (d : Driver). IsOperandCount d (net_at c gate).pin_count) is.kind (sound.operand_counts gate in_range) in
      let len : (net_at c gate).pin_count ≡ length (read_nets nets kept) = sym (ap length is.reads_are ∙ length-map-range_with_len (λ p. (pin_at c p).net) (net_at c gate).first_pin (net_at c gate).pin_count) in
      subst (λ (n : ℕ). IsGateOperandCount kept.kind n) len some

  -- the value of the gate, over the nets that it reads
  pub node_of_reads : (value : ℕ → Tri) → gate_value kept.kind (map value (read_nets nets kept)) ≡ net_node c (λ n. Unknown) nothing_forced gate value
  node_of_reads value =
      ap (λ (ns : List ℕ). gate_value kept.kind (map value ns)) is.reads_are
      ∙ ap (gate_value kept.kind) (map-map value (λ p. (pin_at c p).net) (operands c gate))
      ∙ ap (λ (d : Driver). driven_by c d gate value) (sym is.kind)
