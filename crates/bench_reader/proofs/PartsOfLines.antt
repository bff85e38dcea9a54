-- The lists of the circuit of some lines make a part of a netlist.
use Rattle.std.proofs.Common.{◌≡◌, ℕ, ◌+◌, ◌<◌, ◌≤◌, Bool, true, false, cond, not, eqb, List, [], ◌∷◌, ◌++◌, length, get_or, map, fold, Option, Some, None, unwrap_or, refl, sym, ap, subst, ◌∙◌, inl, inr, arith, append_assoc, append-nil}
use Rattle.std.specs.Prelude.{flat_map, codes, is_none, zero, suc}
use Rattle.std.specs.List.{enumerate_from, AllByRecursion, IsDistinct}
use Rattle.std.specs.Str.{bytes_eq, str_eq_ignore_ascii_case}
use Rattle.std.proofs.lemmas.Bool.{cases_Bool, eqb-true, both_ways}
use Rattle.std.proofs.lemmas.List.{length-append, length-map, get_or-map, map-append, map_push}
use Rattle.std.proofs.lemmas.List.FromFn.{length-enumerate_from, get_or-enumerate_from}
use Rattle.scan_model.specs.declared.circuit.GateKind.{GateKind}
use Rattle.scan_model.specs.declared.circuit.GateKind.TheVariants.{And, Nand, Or, Nor, Xor, Xnor, Not, Buf}
use Rattle.scan_model.specs.declared.circuit.Driver.{Driver}
use Rattle.scan_model.specs.declared.circuit.Driver.TheVariants.{Input, Flop, Gate}
use Rattle.scan_model.specs.declared.circuit.Net.{Net}
use Rattle.scan_model.specs.declared.circuit.Pin.{Pin}
use Rattle.scan_model.specs.declared.circuit.PinPlace.TheVariants.{Operand, Output}
use Rattle.scan_model.specs.Netlist.{netlist, no_pin, is_input_driver, IsOperandCount}
use Rattle.scan_model.specs.Words.{has_word}
use Rattle.scan_model.specs.NetlistLines.{Form, nothing, input, output, definition, no_form, driver_named, takes_one}
use Rattle.scan_model.specs.NetlistRules.{nets_of, new_output, pins_of, defined_names}
use Rattle.scan_model.specs.NetlistText.{net_number, line_nets, nets_after, line_pins, line_pins_after, inputs_of}
use Rattle.bench_reader.specs.FaultlessLines.{HasItsOperands}
use Rattle.bench_reader.specs.NetUses.{operand_pin}
use Rattle.bench_reader.proofs.NamesDiffer.{number_after}
use Rattle.bench_reader.proofs.UsesOfLines.{length-line_pins, length-line_nets}
use Rattle.bench_reader.proofs.OneMoreNet.{IsPart, one_more_net}
use Rattle.bench_reader.proofs.OneMoreOutput.{one_more_output}

-- a gate word names no input
abbrev names_input : Option Driver → Bool
names_input (Some Input) = true
names_input o = false

no_input_among : (b1 b2 b3 b4 b5 b6 b7 b8 b9 b10 : Bool)
    → names_input (cond b1 (Some (Gate And)) (cond b2 (Some (Gate Nand)) (cond b3 (Some (Gate Or)) (cond b4 (Some (Gate Nor)) (cond b5 (Some (Gate Xor)) (cond b6 (Some (Gate Xnor)) (cond b7 (Some (Gate Not)) (cond b8 (Some (Gate Buf)) (cond b9 (Some (Gate Buf)) (cond b10 (Some Flop) None)))))))))) ≡ false
no_input_among true b2 b3 b4 b5 b6 b7 b8 b9 b10 = refl
no_input_among false true b3 b4 b5 b6 b7 b8 b9 b10 = refl
no_input_among false false true b4 b5 b6 b7 b8 b9 b10 = refl
no_input_among false false false true b5 b6 b7 b8 b9 b10 = refl
no_input_among false false false false true b6 b7 b8 b9 b10 = refl
no_input_among false false false false false true b7 b8 b9 b10 = refl
no_input_among false false false false false false true b8 b9 b10 = refl
no_input_among false false false false false false false true b9 b10 = refl
no_input_among false false false false false false false false true b10 = refl
no_input_among false false false false false false false false false true = refl
no_input_among false false false false false false false false false false = refl

no_input_word : (word : List ℕ) → names_input (driver_named word) ≡ false
no_input_word word =
    no_input_among (str_eq_ignore_ascii_case word (codes "AND")) (str_eq_ignore_ascii_case word (codes "NAND")) (str_eq_ignore_ascii_case word (codes "OR")) (str_eq_ignore_ascii_case word (codes "NOR")) (str_eq_ignore_ascii_case word (codes "XOR"))
    (str_eq_ignore_ascii_case word (codes "XNOR")) (str_eq_ignore_ascii_case word (codes "NOT")) (str_eq_ignore_ascii_case word (codes "BUF")) (str_eq_ignore_ascii_case word (codes "BUFF")) (str_eq_ignore_ascii_case word (codes "DFF"))

exactly_one : (k : ℕ) → not (eqb k 1) ≡ false → k ≡ 1
exactly_one k e = elim (cases_Bool (eqb k 1)) [ inl one ↦ eqb-true k 1 one | inr other ↦ absurd (both_ways (not (eqb k 1)) e (ap not other)) ]

at_least_one : (k : ℕ) → eqb k 0 ≡ false → 1 ≤ k
at_least_one zero e = absurd cc
at_least_one (suc k) e = omega arith

counted_gate : (kind : GateKind) (k : ℕ) → cond (takes_one (Some (Gate kind))) (not (eqb k 1)) (eqb k 0) ≡ false → IsOperandCount (Gate kind) k
counted_gate And k e = at_least_one k e
counted_gate Nand k e = at_least_one k e
counted_gate Or k e = at_least_one k e
counted_gate Nor k e = at_least_one k e
counted_gate Xor k e = at_least_one k e
counted_gate Xnor k e = at_least_one k e
counted_gate Not k e = exactly_one k e
counted_gate Buf k e = exactly_one k e

-- a known word with a right number of operands
counted : (o : Option Driver) (k : ℕ) → names_input o ≡ false → is_none o ≡ false → cond (takes_one o) (not (eqb k 1)) (eqb k 0) ≡ false → (IsOperandCount (unwrap_or o Flop) k) × (is_input_driver (unwrap_or o Flop) ≡ false)
counted None k no_input named e = absurd cc
counted (Some Input) k no_input named e = absurd cc
counted (Some Flop) k no_input named e = (exactly_one k e, refl)
counted (Some (Gate kind)) k no_input named e = (counted_gate kind k e, refl)

operands_placed : (defined : List (List ℕ)) (net : ℕ) (operands : List (List ℕ)) (i : ℕ) → i < length (map (operand_pin defined net) (enumerate_from 0 operands))
    → (get_or (map (operand_pin defined net) (enumerate_from 0 operands)) i no_pin).place ≡ Operand net i
operands_placed defined net operands i lt =
    let size : length (enumerate_from 0 operands) ≡ length operands = length-enumerate_from 0 operands in
    let lt' : i < length (enumerate_from 0 operands) = omega (arith, length-map (enumerate_from 0 operands) (operand_pin defined net)) in
    let at : get_or (enumerate_from 0 operands) i (0, []) ≡ (0 + i, get_or operands i []) = get_or-enumerate_from 0 operands i (0, []) (omega arith) in
    let zero_more : 0 + i ≡ i = omega arith in
    ap (λ (p : Pin). p.place) (get_or-map (operand_pin defined net) (enumerate_from 0 operands) i (0, []) no_pin lt')
    ∙ ap (λ (o : ℕ × List ℕ). Operand net o.0) at
    ∙ ap (Operand net) zero_more

moved : (nets nets' : List Net) (pins pins' : List Pin) (inputs inputs' outputs outputs' : List ℕ) → nets ≡ nets' → pins ≡ pins' → inputs ≡ inputs' → outputs ≡ outputs'
    → IsPart (netlist nets pins inputs outputs) → IsPart (netlist nets' pins' inputs' outputs')
moved nets nets' pins pins' inputs inputs' outputs outputs' a b c d part = rw (← a, ← b, ← c, ← d) part

module _ (defined : List (List ℕ)) (differ : IsDistinct bytes_eq defined) where
  -- a line that says nothing of the circuit
  no_more : (nets : List Net) (pins : List Pin) (inputs : List ℕ) (os : List (List ℕ)) → IsPart (netlist nets pins inputs (map (net_number defined) os))
      → IsPart (netlist (nets ++ []) (pins ++ []) (inputs ++ []) (map (net_number defined) (os ++ [])))
  no_more nets pins inputs os part =
      moved nets (nets ++ []) pins (pins ++ []) inputs (inputs ++ []) (map (net_number defined) os) (map (net_number defined) (os ++ []))
      (sym (append-nil nets)) (sym (append-nil pins)) (sym (append-nil inputs)) (ap (map (net_number defined)) (sym (append-nil os))) part

  -- the lists after one more line
  line_part : (f : Form) (front back : List (List ℕ)) → defined ≡ front ++ (nets_of f ++ back) → HasItsOperands f
      → (nets : List Net) (pins : List Pin) (inputs : List ℕ) (os : List (List ℕ)) → length nets ≡ length front
      → IsPart (netlist nets pins inputs (map (net_number defined) os))
      → IsPart (netlist (nets ++ line_nets (length pins) f) (pins ++ line_pins defined os f) (inputs ++ map (net_number defined) (inputs_of f)) (map (net_number defined) (os ++ new_output os f)))
  line_part nothing front back names sound nets pins inputs os size part = no_more nets pins inputs os part
  line_part no_form front back names sound nets pins inputs os size part = no_more nets pins inputs os part
  line_part (input n) front back names sound nets pins inputs os size part =
      let number : net_number defined n ≡ length nets = ap (λ ds. net_number ds n) names ∙ number_after front back n (subst (IsDistinct bytes_eq) names differ) ∙ sym size in
      let net : Net = record { name = n; driver = Input; first_pin = length pins; pin_count = 0 } in
      moved (nets ++ net ∷ []) (nets ++ net ∷ []) (pins ++ []) (pins ++ []) (inputs ++ length nets ∷ []) (inputs ++ net_number defined n ∷ []) (map (net_number defined) os) (map (net_number defined) (os ++ []))
      refl refl (ap (λ k. inputs ++ k ∷ []) (sym number)) (ap (map (net_number defined)) (sym (append-nil os)))
      (one_more_net nets pins [] inputs (map (net_number defined) os) net refl refl refl (λ i lt. absurd (omega arith)) part)
  line_part (definition n word operands) front back names sound nets pins inputs os size part =
      let number : net_number defined n ≡ length nets = ap (λ ds. net_number ds n) names ∙ number_after front back n (subst (IsDistinct bytes_eq) names differ) ∙ sym size in
      let net : Net = record { name = n; driver = unwrap_or (driver_named word) Flop; first_pin = length pins; pin_count = length operands } in
      let more : List Pin = map (operand_pin defined (net_number defined n)) (enumerate_from 0 operands) in
      let count : length operands ≡ length more = sym (length-map (enumerate_from 0 operands) (operand_pin defined (net_number defined n)) ∙ length-enumerate_from 0 operands) in
      let is = counted (driver_named word) (length operands) (no_input_word word) sound.0 sound.1 in
      moved (nets ++ net ∷ []) (nets ++ net ∷ []) (pins ++ more) (pins ++ more) (inputs ++ cond (is_input_driver net.driver) (length nets ∷ []) []) (inputs ++ []) (map (net_number defined) os) (map (net_number defined) (os ++ []))
      refl refl (ap (λ b. inputs ++ cond b (length nets ∷ []) []) is.1) (ap (map (net_number defined)) (sym (append-nil os)))
      (one_more_net nets pins more inputs (map (net_number defined) os) net refl count is.0 (λ i lt. operands_placed defined (net_number defined n) operands i lt ∙ ap (λ k. Operand k i) number) part)
  line_part (output n) front back names sound nets pins inputs os size part = go (has_word os n)
    where
      go : (b : Bool) → IsPart (netlist (nets ++ []) (pins ++ map (λ o. record { net = net_number defined o; place = Output (length os) }) (cond b [] (n ∷ []))) (inputs ++ []) (map (net_number defined) (os ++ cond b [] (n ∷ []))))
      go true = no_more nets pins inputs os part
      go false =
          let outputs : List ℕ = map (net_number defined) os in
          let place : length outputs ≡ length os = length-map os (net_number defined) in
          moved nets (nets ++ []) (pins ++ record { net = net_number defined n; place = Output (length outputs) } ∷ []) (pins ++ record { net = net_number defined n; place = Output (length os) } ∷ []) inputs (inputs ++ []) (outputs ++ net_number defined n ∷ []) (map (net_number defined) (os ++ n ∷ []))
          (sym (append-nil nets)) (ap (λ k. pins ++ record { net = net_number defined n; place = Output k } ∷ []) place) (sym (append-nil inputs)) (sym (map_push (net_number defined) os n))
          (one_more_output nets pins inputs outputs (net_number defined n) part)

  -- the lists after these lines, where the names that they define follow those of the nets before
  pub lines_part : (fs : List Form) (front : List (List ℕ)) → defined ≡ front ++ defined_names fs → AllByRecursion HasItsOperands fs
      → (nets : List Net) (pins : List Pin) (inputs : List ℕ) (os : List (List ℕ)) → length nets ≡ length front
      → IsPart (netlist nets pins inputs (map (net_number defined) os))
      → IsPart (netlist (nets ++ nets_after os (length pins) fs) (pins ++ line_pins_after defined os fs) (inputs ++ map (net_number defined) (flat_map inputs_of fs)) (map (net_number defined) (fold (λ outputs f. outputs ++ new_output outputs f) os fs)))
  lines_part [] front names sound nets pins inputs os size part =
      moved nets (nets ++ []) pins (pins ++ []) inputs (inputs ++ []) (map (net_number defined) os) (map (net_number defined) os)
      (sym (append-nil nets)) (sym (append-nil pins)) (sym (append-nil inputs)) refl part
  lines_part (f ∷ fs) front names sound nets pins inputs os size part =
      let nets' : List Net = nets ++ line_nets (length pins) f in
      let pins' : List Pin = pins ++ line_pins defined os f in
      let inputs' : List ℕ = inputs ++ map (net_number defined) (inputs_of f) in
      let os' : List (List ℕ) = os ++ new_output os f in
      let size' : length nets' ≡ length (front ++ nets_of f) = omega (arith, length-append nets (line_nets (length pins) f), length-append front (nets_of f), length-line_nets (length pins) f) in
      let count : length pins' ≡ length pins + length (pins_of os f) = omega (arith, length-append pins (line_pins defined os f), length-line_pins defined os f) in
      moved (nets' ++ nets_after os' (length pins') fs) (nets ++ (line_nets (length pins) f ++ nets_after os' (length pins + length (pins_of os f)) fs))
      (pins' ++ line_pins_after defined os' fs) (pins ++ (line_pins defined os f ++ line_pins_after defined os' fs))
      (inputs' ++ map (net_number defined) (flat_map inputs_of fs)) (inputs ++ map (net_number defined) (inputs_of f ++ flat_map inputs_of fs))
      (map (net_number defined) (fold (λ outputs g. outputs ++ new_output outputs g) os' fs)) (map (net_number defined) (fold (λ outputs g. outputs ++ new_output outputs g) os' fs))
      (append_assoc nets (line_nets (length pins) f) (nets_after os' (length pins') fs) ∙ ap (λ k. nets ++ (line_nets (length pins) f ++ nets_after os' k fs)) count)
      (append_assoc pins (line_pins defined os f) (line_pins_after defined os' fs))
      (append_assoc inputs (map (net_number defined) (inputs_of f)) (map (net_number defined) (flat_map inputs_of fs)) ∙ ap (λ ns. inputs ++ ns) (sym (map-append (net_number defined) (inputs_of f) (flat_map inputs_of fs))))
      refl
      (lines_part fs (front ++ nets_of f) (names ∙ sym (append_assoc front (nets_of f) (defined_names fs))) sound.1 nets' pins' inputs' os' size'
      (line_part f front (defined_names fs) names sound.0 nets pins inputs os size part))
