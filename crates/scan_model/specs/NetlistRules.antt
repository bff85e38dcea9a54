-- Which rule of the first two rounds a line of a netlist breaks.
use Rattle.std.specs.Prelude.{ℕ, ◌+◌, Bool, true, false, not, ◌&&◌, ◌||◌, ◌==◌, nat_lt, if◌then◌else◌, is_none, List, [], ◌∷◌, ◌++◌, length, map, take, fold, flat_map, slice_index_or, Option}
use Rattle.std.specs.List.{list_any}
use Rattle.scan_model.specs.Lines.{line_at, has_refused_byte}
use Rattle.scan_model.specs.Words.{is_short, has_word}
use Rattle.scan_model.specs.TextFaults.{lowest, or_else, first_fault}
use Rattle.scan_model.specs.declared.rules.TheConstants.{REFUSED_BYTE, NO_FORM, UNKNOWN_WORD, WRONG_COUNT, LONG_NAME, DEFINED_TWICE, UNDEFINED_NET, TOO_MANY_NETS_OR_PINS}
use Rattle.scan_model.specs.NetlistLines.{Form, nothing, input, output, definition, no_form, form_of, driver_named, takes_one}

abbrev pub net_limit : ℕ
net_limit = 65536

abbrev pub pin_limit : ℕ
pin_limit = 262144

-- the forms of lines
abbrev pub forms_of : List (List ℕ) → List Form
forms_of ls = map form_of ls

abbrev pub form_at : List Form → ℕ → Form
form_at fs i = slice_index_or fs i nothing

-- the nets that a line defines: one or none
abbrev pub nets_of : Form → List (List ℕ)
nets_of (input n) = n ∷ []
nets_of (definition n word operands) = n ∷ []
nets_of f = []

-- the nets that a line uses, in the order of the line
abbrev pub uses_of : Form → List (List ℕ)
uses_of (output n) = n ∷ []
uses_of (definition n word operands) = operands
uses_of f = []

-- the names of all nets that lines define, and that they use, in the order of lines
abbrev pub defined_names : List Form → List (List ℕ)
defined_names fs = flat_map nets_of fs

abbrev pub used_names : List Form → List (List ℕ)
used_names fs = flat_map uses_of fs

-- the output that a line adds to these: a line that names one of them again adds nothing
abbrev pub new_output : List (List ℕ) → Form → List (List ℕ)
new_output outputs (output n) = if has_word outputs n then [] else n ∷ []
new_output outputs f = []

-- the outputs that lines name, each once, in the order of their first lines
abbrev pub outputs_of : List Form → List (List ℕ)
outputs_of fs = fold (λ outputs f. outputs ++ new_output outputs f) [] fs

-- the pins that a line makes after lines with these outputs, by the nets that they are of
abbrev pub pins_of : List (List ℕ) → Form → List (List ℕ)
pins_of outputs (output n) = new_output outputs (output n)
pins_of outputs f = uses_of f

-- the pins of lines, after lines with these outputs
abbrev pub pins_after : List (List ℕ) → List Form → List (List ℕ)
pins_after outputs [] = []
pins_after outputs (f ∷ fs) = pins_of outputs f ++ pins_after (outputs ++ new_output outputs f) fs

-- ---- the first round: rules 1 to 6 and 9

-- rule 2
abbrev pub is_no_form : Form → Bool
is_no_form no_form = true
is_no_form f = false

-- rule 3
abbrev pub has_unknown_word : Form → Bool
has_unknown_word (definition n word operands) = is_none (driver_named word)
has_unknown_word f = false

-- rule 4: one operand where the word takes one, else one or more
abbrev pub has_wrong_count : Form → Bool
has_wrong_count (definition n word operands) =
    if takes_one (driver_named word) then not (length operands == 1) else length operands == 0
has_wrong_count f = false

-- rule 5: a net's name, defined or used
abbrev pub has_long_name : Form → Bool
has_long_name f = list_any (λ n. not (is_short n)) (nets_of f ++ uses_of f)

-- rule 6
abbrev pub defines_among : List (List ℕ) → Form → Bool
defines_among names f = list_any (has_word names) (nets_of f)

-- rule 9: the line makes some, and with them there are more than may be
abbrev pub makes_past : ℕ → ℕ → ℕ → Bool
makes_past earlier made limit = nat_lt 0 made && nat_lt limit (earlier + made)

-- the rules at a line, after lines with these nets, outputs and so many pins
abbrev pub first_rules : List (List ℕ) → List (List ℕ) → ℕ → List ℕ → List (ℕ × Bool)
first_rules defined outputs pins line =
    (REFUSED_BYTE, has_refused_byte line) ∷
    (NO_FORM, is_no_form (form_of line)) ∷
    (UNKNOWN_WORD, has_unknown_word (form_of line)) ∷
    (WRONG_COUNT, has_wrong_count (form_of line)) ∷
    (LONG_NAME, has_long_name (form_of line)) ∷
    (DEFINED_TWICE, defines_among defined (form_of line)) ∷ (
      TOO_MANY_NETS_OR_PINS,
      makes_past (length defined) (length (nets_of (form_of line))) net_limit
          || makes_past pins (length (pins_of outputs (form_of line))) pin_limit,
    ) ∷ []

-- the rules at the line i
abbrev pub first_table : List (List ℕ) → ℕ → List (ℕ × Bool)
first_table ls i =
    first_rules (defined_names (forms_of (take i ls))) (outputs_of (forms_of (take i ls)))
    (length (pins_after [] (forms_of (take i ls)))) (line_at ls i)

-- the lowest of these that it breaks
abbrev pub first_rule : List (List ℕ) → ℕ → Option ℕ
first_rule ls i = lowest (first_table ls i)

-- ---- the second round: rule 7

-- the line uses a net that no line defines and no earlier line uses
abbrev pub uses_undefined_first : List Form → ℕ → Bool
uses_undefined_first fs i =
    list_any (λ n. not (has_word (defined_names fs) n) && not (has_word (used_names (take i fs)) n)) (uses_of (form_at fs i))

abbrev pub second_table : List (List ℕ) → ℕ → List (ℕ × Bool)
second_table ls i = (UNDEFINED_NET, uses_undefined_first (forms_of ls) i) ∷ []

abbrev pub second_rule : List (List ℕ) → ℕ → Option ℕ
second_rule ls i = lowest (second_table ls i)

-- the first fault of these two rounds
abbrev pub early_fault : List (List ℕ) → Option (ℕ × ℕ)
early_fault ls = or_else (first_fault (first_rule ls) (length ls)) (first_fault (second_rule ls) (length ls))
