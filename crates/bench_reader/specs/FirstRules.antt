-- Rules of the first round: those of a line by its form, and of these the ones that look at the lines before.
use Rattle.std.specs.Prelude.{ℕ, Bool, not, ◌==◌, ◌||◌, if◌then◌else◌, List, [], ◌∷◌, length, Option}
use Rattle.scan_model.specs.declared.circuit.Driver.{Driver}
use Rattle.scan_model.specs.declared.rules.TheConstants.{NO_FORM, UNKNOWN_WORD, WRONG_COUNT, LONG_NAME, DEFINED_TWICE, TOO_MANY_NETS_OR_PINS}
use Rattle.scan_model.specs.Words.{has_word}
use Rattle.scan_model.specs.NetlistLines.{Form, takes_one}
use Rattle.scan_model.specs.NetlistRules.{nets_of, pins_of, is_no_form, has_unknown_word, has_wrong_count, has_long_name, defines_among, makes_past, net_limit, pin_limit}

-- rule 4, by what the gate word makes of a net and the number of operands
abbrev pub is_wrong_count : Option Driver → ℕ → Bool
is_wrong_count driver operands = if takes_one driver then not (operands == 1) else operands == 0

-- rule 9, for a line that makes so many nets and pins after lines with these nets and so many pins
abbrev pub passes_by : List (List ℕ) → ℕ → ℕ → ℕ → Bool
passes_by defined pins more_nets more_pins = makes_past (length defined) more_nets net_limit || makes_past pins more_pins pin_limit

-- rules 6 and 9, for a line that defines a net of this name with so many pins
abbrev pub net_rules : List (List ℕ) → ℕ → List ℕ → ℕ → List (ℕ × Bool)
net_rules defined pins net more_pins = (DEFINED_TWICE, has_word defined net) ∷ (TOO_MANY_NETS_OR_PINS, passes_by defined pins 1 more_pins) ∷ []

-- all but rule 1, for a line of this form after lines with these nets, outputs and so many pins
abbrev pub form_rules : List (List ℕ) → List (List ℕ) → ℕ → Form → List (ℕ × Bool)
form_rules defined outputs pins f =
    (NO_FORM, is_no_form f) ∷ (UNKNOWN_WORD, has_unknown_word f) ∷ (WRONG_COUNT, has_wrong_count f) ∷ (LONG_NAME, has_long_name f) ∷
    (DEFINED_TWICE, defines_among defined f) ∷ (TOO_MANY_NETS_OR_PINS, passes_by defined pins (length (nets_of f)) (length (pins_of outputs f))) ∷ []
