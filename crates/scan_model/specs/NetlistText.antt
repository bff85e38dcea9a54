-- The circuit that a netlist stands for, rule 8, and what reading a netlist gives.
use Rattle.std.specs.Prelude.{ℕ, ◌+◌, Bool, not, List, [], ◌∷◌, ◌++◌, length, map, flat_map, Option, unwrap_or, Result}
use Rattle.std.specs.List.{list_any, position_or_len, enumerate_from}
use Rattle.std.specs.Str.{bytes_eq}
use Rattle.scan_model.specs.declared.circuit.Driver.TheVariants.{Input, Flop}
use Rattle.scan_model.specs.declared.circuit.Net.{Net}
use Rattle.scan_model.specs.declared.circuit.Pin.{Pin}
use Rattle.scan_model.specs.declared.circuit.PinPlace.TheVariants as place
use Rattle.scan_model.specs.Netlist.{Netlist, netlist}
use Rattle.scan_model.specs.Walks.{has_level}
use Rattle.scan_model.specs.Lines.{text_lines}
use Rattle.scan_model.specs.TextFaults.{breaks, lowest, or_else, first_fault, refused_or}
use Rattle.scan_model.specs.declared.rules.TheConstants.{REFUSED_BYTE, NO_FORM, UNKNOWN_WORD, WRONG_COUNT, LONG_NAME, DEFINED_TWICE, UNDEFINED_NET, WITHOUT_LEVEL, TOO_MANY_NETS_OR_PINS}
use Rattle.scan_model.specs.NetlistLines.{Form, input, output, definition, driver_named}
use Rattle.scan_model.specs.NetlistRules.{forms_of, form_at, nets_of, defined_names, new_output, outputs_of, pins_of, first_table, second_table, early_fault}

-- the number of a net, in the order of defining lines
abbrev pub net_number : List (List ℕ) → List ℕ → ℕ
net_number defined n = position_or_len (bytes_eq n) defined

-- the net that a line defines, after so many pins
abbrev pub line_nets : ℕ → Form → List Net
line_nets pins (input n) = record { name = n; driver = Input; first_pin = pins; pin_count = 0 } ∷ []
line_nets pins (definition n word operands) =
    record { name = n; driver = unwrap_or (driver_named word) Flop; first_pin = pins; pin_count = length operands } ∷ []
line_nets pins f = []

-- the nets of lines, after lines with these outputs and so many pins
abbrev pub nets_after : List (List ℕ) → ℕ → List Form → List Net
nets_after outputs pins [] = []
nets_after outputs pins (f ∷ fs) =
    line_nets pins f ++ nets_after (outputs ++ new_output outputs f) (pins + length (pins_of outputs f)) fs

-- the pins of a line, in its order, after lines with these outputs
abbrev pub line_pins : List (List ℕ) → List (List ℕ) → Form → List Pin
line_pins defined outputs (output n) =
    map (λ o. record { net = net_number defined o; place = place.Output (length outputs) }) (new_output outputs (output n))
line_pins defined outputs (definition n word operands) =
    map (λ o. record { net = net_number defined o.1; place = place.Operand (net_number defined n) o.0 }) (enumerate_from 0 operands)
line_pins defined outputs f = []

-- the pins of lines, after lines with these outputs
abbrev pub line_pins_after : List (List ℕ) → List (List ℕ) → List Form → List Pin
line_pins_after defined outputs [] = []
line_pins_after defined outputs (f ∷ fs) = line_pins defined outputs f ++ line_pins_after defined (outputs ++ new_output outputs f) fs

-- the inputs that a line names
abbrev pub inputs_of : Form → List (List ℕ)
inputs_of (input n) = n ∷ []
inputs_of f = []

-- the circuit of lines, in their order
abbrev pub circuit_in : List Form → Netlist
circuit_in fs = netlist
    (nets_after [] 0 fs)
    (line_pins_after (defined_names fs) [] fs)
    (map (net_number (defined_names fs)) (flat_map inputs_of fs))
    (map (net_number (defined_names fs)) (outputs_of fs))

abbrev pub circuit_of : List ℕ → Netlist
circuit_of bytes = circuit_in (forms_of (text_lines bytes))

-- ---- the third round: rule 8

-- the line defines a net of the circuit whose backward walk through gates does not end
abbrev pub defines_without_level : List Form → Form → Bool
defines_without_level fs f = list_any (λ n. not (has_level (circuit_in fs) (net_number (defined_names fs) n))) (nets_of f)

abbrev pub third_table : List (List ℕ) → ℕ → List (ℕ × Bool)
third_table ls i = (WITHOUT_LEVEL, defines_without_level (forms_of ls) (form_at (forms_of ls) i)) ∷ []

abbrev pub third_rule : List (List ℕ) → ℕ → Option ℕ
third_rule ls i = lowest (third_table ls i)

-- ---- all rules

-- the line i breaks the rule
abbrev pub netlist_breaks : List (List ℕ) → ℕ → ℕ → Bool
netlist_breaks ls i rule = breaks (first_table ls i ++ (second_table ls i ++ third_table ls i)) rule

-- the rounds in which the rules are sought
abbrev pub netlist_rounds : List (List ℕ)
netlist_rounds =
    (REFUSED_BYTE ∷ NO_FORM ∷ UNKNOWN_WORD ∷ WRONG_COUNT ∷ LONG_NAME ∷ DEFINED_TWICE ∷ TOO_MANY_NETS_OR_PINS ∷ []) ∷
    (UNDEFINED_NET ∷ []) ∷ (WITHOUT_LEVEL ∷ []) ∷ []

-- the first fault: the rounds in their order
abbrev pub netlist_fault : List ℕ → Option (ℕ × ℕ)
netlist_fault bytes = or_else (early_fault (text_lines bytes)) (first_fault (third_rule (text_lines bytes)) (length (text_lines bytes)))

-- what reading a netlist gives: its first fault, or the circuit that it stands for
abbrev pub netlist_reading : List ℕ → Result Netlist (ℕ × ℕ)
netlist_reading bytes = refused_or (netlist_fault bytes) (circuit_of bytes)
