-- The wiring: the gates that lead to an observed net, in order, and those of them that read each net.
use Rattle.std.specs.Prelude.{◌≡◌, ℕ, ◌<◌, ◌≤◌, List, [], length, Bool, true, All, Contains, map, slice_index, slice_index_or, slice_range, ◌+◌}
use Rattle.scan_model.specs.declared.circuit.PinPlace.{PinPlace}
use Rattle.scan_model.specs.declared.circuit.PinPlace.TheVariants.{Operand, Output}
use Rattle.scan_model.specs.declared.circuit.Driver.{Driver}
use Rattle.scan_model.specs.declared.circuit.Driver.TheVariants.{Input, Flop, Gate}
use Rattle.scan_model.specs.declared.circuit.GateKind.{GateKind}
use Rattle.scan_model.specs.declared.circuit.GateKind.TheVariants.{Buf}
use Rattle.scan_model.specs.declared.circuit.Net.{Net}
use Rattle.scan_model.specs.Netlist.{Netlist, no_net, driver_of, is_gate, reads, pin_at}
use Rattle.scan_model.specs.Walks.{IsEvaluationOrder}
use Rattle.scan_model.specs.Cone.{in_fan_in}
use Rattle.lane_rows.specs.declared.kept_gates.KeptGate.{KeptGate}

-- the places of the gates that read a net
abbrev pub sinks_of : List (List ℕ) → ℕ → List ℕ
sinks_of sinks n = slice_index_or sinks n []

-- An order of evaluation, and places of gates that read each net. All stand after the net's own place.
pub record IsWired (c : Netlist) (order : List ℕ) (sinks : List (List ℕ)) : Type 0 where
  pub ordered : IsEvaluationOrder c order
  pub nets : length c.nets ≤ length sinks
  pub places : (n k : ℕ) → n < length c.nets → Contains (sinks_of sinks n) k → (k < length order) × Contains (reads c (slice_index order k)) n
  pub after : (i k : ℕ) → i < length order → Contains (sinks_of sinks (slice_index order i)) k → i < k

-- each gate that matters is among those of each net that it reads
abbrev pub Covers : Netlist → List ℕ → List (List ℕ) → (ℕ → Bool) → Type 0
Covers c order sinks live = (n k : ℕ) → k < length order → live (slice_index order k) ≡ true → Contains (reads c (slice_index order k)) n → Contains (sinks_of sinks n) k

-- what leads to a net that matters matters
abbrev pub LeadsUp : Netlist → (ℕ → Bool) → Type 0
LeadsUp c live = (m n : ℕ) → n < length c.nets → live n ≡ true → in_fan_in c m n ≡ true → live m ≡ true

-- some nets and all that gates with a mark read have marks
pub record AreMarked (c : Netlist) (nets : List ℕ) (marked : ℕ → Bool) : Type 0 where
  pub own : (k : ℕ) → k < length nets → marked (slice_index nets k) ≡ true
  pub closed : (g n : ℕ) → g < length c.nets → is_gate c g ≡ true → marked g ≡ true → Contains (reads c g) n → marked n ≡ true

-- Where the gates with a mark stand in an order, by their nets; other nets have its end.
pub record AreLivePlaces (order : List ℕ) (marked : ℕ → Bool) (places : List ℕ) : Type 0 where
  pub live : (k : ℕ) → k < length order → marked (slice_index order k) ≡ true → slice_index places (slice_index order k) ≡ k
  pub only : (n : ℕ) → n < length places → slice_index places n < length order → slice_index order (slice_index places n) ≡ n

-- the place of the gate of which a pin is an operand; that of an output is the end
abbrev pub place_at : List ℕ → ℕ → PinPlace → ℕ
place_at places end (Operand g i) = slice_index places g
place_at places end (Output k) = end

abbrev pub sink_place : Netlist → List ℕ → ℕ → ℕ → ℕ
sink_place c places end p = place_at places end (pin_at c p).place

-- The nets that operands of gates with a place see, and beside each the place; of the first pins.
pub record AreLiveReads (c : Netlist) (places : List ℕ) (end pins : ℕ) (nets at : List ℕ) : Type 0 where
  pub few : length nets ≤ pins
  pub same : length at ≡ length nets
  pub within : All (λ n. n < length c.nets) nets
  pub each : (i : ℕ) → i < length nets → (p : ℕ) × (p < pins) × ((pin_at c p).net ≡ slice_index nets i) × (sink_place c places end p ≡ slice_index at i) × (slice_index at i < end)
  pub all : (p : ℕ) → p < pins → sink_place c places end p < end → (i : ℕ) × (i < length nets) × ((pin_at c p).net ≡ slice_index nets i) × (sink_place c places end p ≡ slice_index at i)

-- Wiring in which the gates with a mark wait for what they read.
pub record IsMadeFor (c : Netlist) (order : List ℕ) (marked : ℕ → Bool) (sinks : List (List ℕ)) : Type 0 where
  pub wired : IsWired c order sinks
  pub covers : Covers c order sinks marked

-- Wiring for what leads to some nets.
pub record IsWiredFor (c : Netlist) (nets : List ℕ) (order : List ℕ) (sinks : List (List ℕ)) : Type 0 where
  pub live : ℕ → Bool
  pub own : (k : ℕ) → k < length nets → live (slice_index nets k) ≡ true
  pub up : LeadsUp c live
  pub wired : IsWired c order sinks
  pub covers : Covers c order sinks live

-- what stands past the end of what is kept of gates
abbrev pub no_gate : KeptGate
no_gate = record { net = 0; kind = Buf; first = 0; count = 0 }

-- the kind of a gate; Buf where no gate drives
abbrev pub kind_of : Driver → GateKind
kind_of Input = Buf
kind_of Flop = Buf
kind_of (Gate kind) = kind

-- what is kept of a gate is read off its net
abbrev pub kept_of_net : ℕ → Net → KeptGate
kept_of_net gate net = record { net = gate; kind = kind_of net.driver; first = net.first_pin; count = net.pin_count }

abbrev pub kept_gate : List Net → ℕ → KeptGate
kept_gate nets gate = kept_of_net gate (slice_index_or nets gate no_net)

-- the net that each pin sees
abbrev pub pin_nets : Netlist → List ℕ
pin_nets c = map (λ pin. pin.net) c.pins

-- the nets that a gate reads, out of a list
abbrev pub read_nets : List ℕ → KeptGate → List ℕ
read_nets operands g = slice_range operands g.first (g.first + g.count)

-- What is kept of a gate is what the circuit says of it: its net, its kind, and the nets that it reads, in order.
pub record IsKept (c : Netlist) (operands : List ℕ) (gate : ℕ) (kept : KeptGate) : Type 0 where
  pub net : kept.net ≡ gate
  pub kind : driver_of c gate ≡ Gate kept.kind
  pub within : kept.first + kept.count ≤ length operands
  pub reads_are : read_nets operands kept ≡ reads c gate

-- what is kept of the gates of an order, one for each
pub record AreKept (c : Netlist) (order : List ℕ) (gates : List KeptGate) (operands : List ℕ) : Type 0 where
  pub count : length gates ≡ length order
  pub each : (k : ℕ) → k < length order → IsKept c operands (slice_index order k) (slice_index_or gates k no_gate)
