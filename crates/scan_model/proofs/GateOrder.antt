-- The start of the search for an order of the gates, and what it has found at its end.
use Rattle.std.proofs.Common.{◌≡◌, ℕ, ◌*◌, ◌<◌, ◌≤◌, true, cond, List, [], ◌∷◌, length, get_or, map, refl, sym, ap, ◌∙◌, inl, inr, arith}
use Rattle.std.specs.Prelude.{count_by}
use Rattle.std.specs.List.{sum, sum_by, range_with_len}
use Rattle.std.proofs.lemmas.Bool.{cases_lt, false≢true}
use Rattle.std.proofs.lemmas.List.{get_or_past, get_or-map, length-map}
use Rattle.std.proofs.lemmas.List.Elements.{All-from_get_or}
use Rattle.std.proofs.lemmas.List.Sums.{sum_by-le, sum-map}
use Rattle.std.proofs.lemmas.List.FromFn.{fill_by_all}
use Rattle.scan_model.specs.declared.circuit.Driver.{Driver}
use Rattle.scan_model.specs.declared.circuit.Driver.TheVariants.{Input, Flop, Gate}
use Rattle.scan_model.specs.declared.circuit.MakeFault.{MakeFault}
use Rattle.scan_model.specs.declared.circuit.MakeFault.TheVariants.{NoLevel, NoMemory}
use Rattle.scan_model.specs.declared.circuit.Net.{Net}
use Rattle.scan_model.specs.declared.circuit.Pin.{Pin}
use Rattle.scan_model.specs.declared.evaluation.Mark.{Mark}
use Rattle.scan_model.specs.declared.evaluation.Mark.TheVariants.{Open, Settled}
use Rattle.scan_model.specs.Netlist.{Netlist, netlist, net_at, is_gate, is_gate_driver, driver_of, net_numbers, no_net}
use Rattle.scan_model.specs.Walks.{IsWalk, HasLevels, IsEvaluationOrder, IsLeastWithoutLevel}
use Rattle.scan_model.specs.Circuits.{IsCircuit}
use Rattle.scan_model.specs.MakeFaults.{IfNoLevel}
use Rattle.scan_model.specs.GateSearch.{wiring, IsWired, State, state, first_mark, mark_at, unsettled, IsSearch, IsAtRest}
use Rattle.scan_model.proofs.Levels.{order_gives_levels}

gate_from_mark : (d : Driver) → (first_mark d ≡ Settled → ⊥) → is_gate_driver d ≡ true
gate_from_mark Input h = absurd (h refl)
gate_from_mark Flop h = absurd (h refl)
gate_from_mark (Gate kind) h = refl

no_gate_from_mark : (d : Driver) → first_mark d ≡ Settled → is_gate_driver d ≡ true → ⊥
no_gate_from_mark Input settled is = false≢true is
no_gate_from_mark Flop settled is = false≢true is
no_gate_from_mark (Gate kind) settled is = cc

never_open : (d : Driver) → first_mark d ≡ Open → ⊥
never_open Input e = cc
never_open Flop e = cc
never_open (Gate kind) e = cc

counts_gate : (d : Driver) → unsettled (first_mark d) ≡ cond (is_gate_driver d) 1 0
counts_gate Input = refl
counts_gate Flop = refl
counts_gate (Gate kind) = refl

abbrev pub mark_of : Net → Mark
mark_of n = first_mark n.driver

abbrev pub count_of : Net → ℕ
count_of n = n.pin_count

-- at first each gate is fresh, and counts as one that is not in the order
gates_counted : (c : Netlist) → sum_by unsettled (map mark_of c.nets) ≡ count_by (is_gate c) (net_numbers c)
gates_counted c =
    let N = length c.nets in
    let ones : List ℕ = map unsettled (map mark_of c.nets) in
    let counts : ℕ → ℕ = λ n. cond (is_gate c n) 1 0 in
    let same : ones ≡ map counts (range_with_len 0 N) = fill_by_all counts ones N 0 (length-map (map mark_of c.nets) unsettled ∙ length-map c.nets mark_of)
    (λ k lt. get_or-map unsettled (map mark_of c.nets) k Settled 0 (omega (arith, length-map c.nets mark_of)) ∙ ap unsettled (get_or-map mark_of c.nets k no_net Settled lt) ∙ counts_gate (driver_of c k)) in
    sym (sum-map unsettled (map mark_of c.nets)) ∙ ap sum same ∙ sum-map counts (range_with_len 0 N)

pub search_starts : (c : Netlist) → IsAtRest c 0 (state (map count_of c.nets) (map mark_of c.nets) [] [])
search_starts c =
    let mark : (g : ℕ) → g < length c.nets → mark_at (map mark_of c.nets) g ≡ first_mark (driver_of c g) = λ g lt. get_or-map mark_of c.nets g no_net Settled lt in
    let count : (g : ℕ) → g < length c.nets → get_or (map count_of c.nets) g 0 ≡ (net_at c g).pin_count = λ g lt. get_or-map count_of c.nets g no_net 0 lt in
    record {
      search = record {
        left_size = length-map c.nets count_of;
        marks_size = length-map c.nets mark_of;
        left_fits = λ g lt. omega (arith, count g lt);
        passed = λ g i lt ge low. absurd (omega (arith, count g lt));
        gates = λ g lt h. gate_from_mark (driver_of c g) (λ e. h (mark g lt ∙ e));
        settled = λ g lt is e. absurd (no_gate_from_mark (driver_of c g) (sym (mark g lt) ∙ e) is);
        ordered = record {
          gates = λ k lt. absurd (omega arith);
          after_read = λ k h lt read is. absurd (omega arith);
        };
        counted = omega (arith, gates_counted c);
        smaller = λ g lt. absurd (omega arith);
        line = tt;
        open_on_path = λ g e. elim (cases_lt g (length c.nets)) [
          | inl lt ↦ absurd (never_open (driver_of c g) (sym (mark g lt) ∙ e))
          | inr past ↦
              let settled : mark_at (map mark_of c.nets) g ≡ Settled = get_or_past (map mark_of c.nets) g Settled (omega (arith, length-map c.nets mark_of)) in
              absurd (open_or_settled (mark_at (map mark_of c.nets) g) e settled)
        ];
      };
      empty = refl;
    }
  where
    open_or_settled : (m : Mark) → m ≡ Open → m ≡ Settled → ⊥
    open_or_settled m a b = cc

-- the order is whole once the walks from all nets have ended
pub search_ends : (c : Netlist) (root : ℕ) (s : State) → length c.nets ≤ root → IsSearch c root s → IsEvaluationOrder c s.order
search_ends c root s past known =
    let none : sum_by unsettled s.marks ≤ length s.marks * 0 = sum_by-le unsettled 0 s.marks (All-from_get_or (λ m. unsettled m ≤ 0) s.marks Settled (λ g lt.
    omega (arith, ap unsettled (known.smaller g (omega (arith, known.marks_size)))))) in
    record {
      gates = known.ordered.gates;
      all = λ g lt is. known.settled g lt is (known.smaller g (omega arith));
      count = omega (arith, none, known.counted);
      after_read = known.ordered.after_read;
    }

-- inputs and outputs bear on no walk

same_walk : (nets : List Net) (pins : List Pin) (ins outs inputs outputs : List ℕ) (gs : List ℕ) → IsWalk (netlist nets pins ins outs) gs → IsWalk (netlist nets pins inputs outputs) gs
same_walk nets pins ins outs inputs outputs [] walk = tt
same_walk nets pins ins outs inputs outputs (g ∷ []) walk = walk
same_walk nets pins ins outs inputs outputs (g ∷ h ∷ gs) walk = (walk.0, walk.1, same_walk nets pins ins outs inputs outputs (h ∷ gs) walk.2)

pub wired_circuit : (nets : List Net) (pins : List Pin) (inputs outputs : List ℕ) → IsCircuit (netlist nets pins inputs outputs) → IsWired (wiring nets pins)
wired_circuit nets pins inputs outputs sound = record { nets_fit = sound.nets_fit; operand_range = sound.netlist.operand_range; pin_nets = sound.netlist.pin_nets }

pub order_of_circuit : (nets : List Net) (pins : List Pin) (inputs outputs order : List ℕ) → IsEvaluationOrder (wiring nets pins) order → IsEvaluationOrder (netlist nets pins inputs outputs) order
order_of_circuit nets pins inputs outputs order ordered = record { gates = ordered.gates; all = ordered.all; count = ordered.count; after_read = ordered.after_read }

pub levels_of_circuit : (c : Netlist) (order : List ℕ) → IsEvaluationOrder c order → HasLevels c
levels_of_circuit c order ordered = order_gives_levels c order ordered

least_of_circuit : (nets : List Net) (pins : List Pin) (inputs outputs : List ℕ) (n : ℕ) → IsLeastWithoutLevel (wiring nets pins) n → IsLeastWithoutLevel (netlist nets pins inputs outputs) n
least_of_circuit nets pins inputs outputs n least = record {
  in_range = least.in_range;
  gate = least.gate;
  no_level = λ level. least.no_level (λ gs walk. level gs (same_walk nets pins [] [] inputs outputs (n ∷ gs) walk));
  least = λ g lt is gs walk. least.least g lt is gs (same_walk nets pins inputs outputs [] [] (g ∷ gs) walk);
}

pub fault_of_circuit : (nets : List Net) (pins : List Pin) (inputs outputs : List ℕ) (fault : MakeFault) → IfNoLevel fault (IsLeastWithoutLevel (wiring nets pins)) → IfNoLevel fault (IsLeastWithoutLevel (netlist nets pins inputs outputs))
fault_of_circuit nets pins inputs outputs (NoLevel n) least = least_of_circuit nets pins inputs outputs n least
fault_of_circuit nets pins inputs outputs NoMemory least = tt
