-- Lines without a fault of the first two rounds stand for a circuit.
use Rattle.std.proofs.Common.{◌≡◌, ℕ, ◌+◌, ◌<◌, ◌≤◌, Bool, true, false, cond, not, ◌||◌, List, [], ◌∷◌, ◌++◌, length, get_or, map, refl, sym, ap, ◌∙◌, arith}
use Rattle.std.specs.Prelude.{All}
use Rattle.std.specs.List.{list_any, enumerate_from, AllByRecursion}
use Rattle.std.proofs.lemmas.Bool.{or_parts}
use Rattle.std.proofs.lemmas.List.{length-map, get_or-map, map-append}
use Rattle.std.proofs.lemmas.List.Elements.{All-append, All-map, All-nil, All-from_recursion, All-get_or}
use Rattle.scan_model.specs.declared.circuit.Net.{Net}
use Rattle.scan_model.specs.declared.circuit.Pin.{Pin}
use Rattle.scan_model.specs.declared.circuit.PinPlace.TheVariants.{Output}
use Rattle.scan_model.specs.Netlist.{netlist, no_pin}
use Rattle.scan_model.specs.Circuits.{IsCircuit}
use Rattle.scan_model.specs.Words.{has_word}
use Rattle.scan_model.specs.NetlistLines.{Form, nothing, input, output, definition, no_form}
use Rattle.scan_model.specs.NetlistRules.{nets_of, new_output, pins_of, pins_after, defined_names, net_limit, pin_limit}
use Rattle.scan_model.specs.NetlistText.{net_number, line_nets, nets_after, line_pins, line_pins_after, circuit_in}
use Rattle.bench_reader.specs.NetlistDrafts.{uses_undefined}
use Rattle.bench_reader.specs.FaultlessLines.{AreClean, AreKnown}
use Rattle.bench_reader.specs.NetUses.{operand_pin}
use Rattle.bench_reader.proofs.NamesDiffer.{number_in_range, outputs_all, outputs_none}
use Rattle.bench_reader.proofs.UsesOfLines.{length-line_pins_after}
use Rattle.bench_reader.proofs.OneMoreNet.{IsPart}
use Rattle.bench_reader.proofs.PartsOfLines.{lines_part}

no_lines : IsPart (netlist [] [] [] [])
no_lines = record {
  inputs = refl;
  operand_counts = λ n lt. absurd (omega arith);
  operand_range = λ n lt. absurd (omega arith);
  operand_places = λ n i lt few. absurd (omega arith);
  pin_places = λ p lt. absurd (omega arith);
  output_pins = λ k lt. absurd (omega arith);
}

-- ---- names

line_names : (pins : ℕ) (f : Form) → map (λ (n : Net). n.name) (line_nets pins f) ≡ nets_of f
line_names pins nothing = refl
line_names pins (input n) = refl
line_names pins (output n) = refl
line_names pins (definition n word operands) = refl
line_names pins no_form = refl

pub names_after : (os : List (List ℕ)) (pins : ℕ) (fs : List Form) → map (λ (n : Net). n.name) (nets_after os pins fs) ≡ defined_names fs
names_after os pins [] = refl
names_after os pins (f ∷ fs) =
    map-append (λ (n : Net). n.name) (line_nets pins f) (nets_after (os ++ new_output os f) (pins + length (pins_of os f)) fs)
    ∙ ap (λ ns. ns ++ map (λ (n : Net). n.name) (nets_after (os ++ new_output os f) (pins + length (pins_of os f)) fs)) (line_names pins f)
    ∙ ap (λ ns. nets_of f ++ ns) (names_after (os ++ new_output os f) (pins + length (pins_of os f)) fs)

pub length-nets_after : (fs : List Form) → length (nets_after [] 0 fs) ≡ length (defined_names fs)
length-nets_after fs = sym (length-map (nets_after [] 0 fs) (λ (n : Net). n.name)) ∙ ap length (names_after [] 0 fs)

-- ---- nets of pins

module _ (defined : List (List ℕ)) where
  known_head : (n : List ℕ) (more : Bool) → (not (has_word defined n) || more) ≡ false → has_word defined n ≡ true
  known_head n more e = go (has_word defined n) (or_parts (not (has_word defined n)) more e).0
    where
      go : (b : Bool) → not b ≡ false → b ≡ true
      go true e = refl
      go false e = absurd cc

  operands_known : (k : ℕ) (operands : List (List ℕ)) → list_any (λ n. not (has_word defined n)) operands ≡ false → AllByRecursion (λ o. net_number defined o.1 < length defined) (enumerate_from k operands)
  operands_known k [] known = tt
  operands_known k (n ∷ ns) known = (
    number_in_range defined n (known_head n (list_any (λ m. not (has_word defined m)) ns) known),
    operands_known (k + 1) ns (or_parts (not (has_word defined n)) (list_any (λ m. not (has_word defined m)) ns) known).1,
  )

  line_pins_known : (os : List (List ℕ)) (f : Form) → uses_undefined defined f ≡ false → All (λ (p : Pin). p.net < length defined) (line_pins defined os f)
  line_pins_known os nothing known = All-nil (λ (p : Pin). p.net < length defined)
  line_pins_known os (input n) known = All-nil (λ (p : Pin). p.net < length defined)
  line_pins_known os no_form known = All-nil (λ (p : Pin). p.net < length defined)
  line_pins_known os (output n) known =
      All-map (λ (p : Pin). p.net < length defined) (λ (o : List ℕ). record { net = net_number defined o; place = Output (length os) }) (new_output os (output n))
      (All-from_recursion (λ (o : List ℕ). net_number defined o < length defined) (new_output os (output n)) (go (has_word os n)))
    where
      go : (b : Bool) → AllByRecursion (λ (o : List ℕ). net_number defined o < length defined) (cond b [] (n ∷ []))
      go true = tt
      go false = (number_in_range defined n (known_head n false known), tt)
  line_pins_known os (definition n word operands) known =
      All-map (λ (p : Pin). p.net < length defined) (operand_pin defined (net_number defined n)) (enumerate_from 0 operands)
      (All-from_recursion (λ (o : ℕ × List ℕ). net_number defined o.1 < length defined) (enumerate_from 0 operands) (operands_known 0 operands known))

  pins_known : (os : List (List ℕ)) (fs : List Form) → AllByRecursion (λ f. uses_undefined defined f ≡ false) fs → All (λ (p : Pin). p.net < length defined) (line_pins_after defined os fs)
  pins_known os [] known = All-nil (λ (p : Pin). p.net < length defined)
  pins_known os (f ∷ fs) known =
      All-append (λ (p : Pin). p.net < length defined) (line_pins defined os f) (line_pins_after defined (os ++ new_output os f) fs)
      (line_pins_known os f known.0) (pins_known (os ++ new_output os f) fs known.1)

-- ---- the circuit

pub circuit_is_sound : (fs : List Form) → AreClean fs → AreKnown fs → length (defined_names fs) ≤ net_limit → length (pins_after [] fs) ≤ pin_limit → IsCircuit (circuit_in fs)
circuit_is_sound fs clean known few_nets few_pins =
    let defined : List (List ℕ) = defined_names fs in
    let part : IsPart (circuit_in fs) = lines_part defined clean.differ fs [] refl clean.counts [] [] [] [] refl no_lines in
    let pins = pins_known defined [] fs known in
    let outputs = outputs_all defined fs [] known (outputs_none defined) in
    record {
      netlist = record {
        inputs = part.inputs;
        operand_counts = part.operand_counts;
        operand_range = part.operand_range;
        operand_places = part.operand_places;
        pin_nets = λ p lt. omega (arith, All-get_or (λ (p : Pin). p.net < length defined) (line_pins_after defined [] fs) p no_pin lt pins, length-nets_after fs);
        pin_places = part.pin_places;
        output_pins = part.output_pins;
      };
      names_differ = rw (names_after [] 0 fs) clean.differ;
      outputs_differ = outputs.differ;
      names_fit = λ k d lt.
          let name : get_or defined k d.name ≡ (get_or (nets_after [] 0 fs) k d).name = ap (λ ns. get_or ns k d.name) (sym (names_after [] 0 fs)) ∙ get_or-map (λ (n : Net). n.name) (nets_after [] 0 fs) k d d.name lt in
          omega (arith, ap length name, All-get_or (λ (n : List ℕ). length n ≤ 64) defined k d.name (omega (arith, length-nets_after fs)) clean.short);
      nets_fit = omega (arith, few_nets, length-nets_after fs);
      pins_fit = omega (arith, few_pins, length-line_pins_after defined [] fs);
    }
