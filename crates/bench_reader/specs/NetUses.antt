-- The uses of nets, in the order of the pins that they make.
use Rattle.std.specs.Prelude.{ℕ, ◌≡◌, ◌+◌, if◌then◌else◌, List, [], ◌∷◌, ◌++◌, length, map, Option, Some, None}
use Rattle.std.specs.List.{enumerate_from}
use Rattle.text_parts.specs.declared.fault.ReadFault.{ReadFault}
use Rattle.text_parts.specs.declared.fault.ReadFault.TheVariants.{Text, NoMemory}
use Rattle.scan_model.specs.declared.circuit.Pin.{Pin}
use Rattle.scan_model.specs.declared.circuit.PinPlace.{PinPlace}
use Rattle.scan_model.specs.declared.circuit.PinPlace.TheVariants.{Operand, Output}
use Rattle.scan_model.specs.Words.{has_word}
use Rattle.scan_model.specs.NetlistLines.{Form, output, definition}
use Rattle.scan_model.specs.NetlistRules.{nets_of, new_output}
use Rattle.scan_model.specs.NetlistText.{net_number, inputs_of}
use Rattle.scan_model.specs.declared.rules.TheConstants.{UNDEFINED_NET}
use Rattle.bench_reader.specs.declared.first_round.Use.{Use}

-- a use: the number of its line, the name of the net, and the pin's place
pub record NamedUse : Type 0 where
  pub line : ℕ
  pub name : List ℕ
  pub place : PinPlace

abbrev pub use_view : Use → NamedUse
use_view u = record { line = u.line; name = u.name.now; place = u.place }

abbrev pub use_views : List Use → List NamedUse
use_views us = map use_view us

-- the use by an operand of the net of this number, by its place among the operands and its name
abbrev pub operand_use : ℕ → ℕ → ℕ × List ℕ → NamedUse
operand_use line net o = record { line = line; name = o.1; place = Operand net o.0 }

-- the uses of the line of this number, after lines with so many nets and these outputs
abbrev pub line_uses : ℕ → ℕ → List (List ℕ) → Form → List NamedUse
line_uses line net outputs (output n) = map (λ o. record { line = line; name = o; place = Output (length outputs) }) (new_output outputs (output n))
line_uses line net outputs (definition n word operands) = map (operand_use line net) (enumerate_from 0 operands)
line_uses line net outputs f = []

-- the uses of lines from this number on, after lines with so many nets and these outputs
abbrev pub uses_after : ℕ → ℕ → List (List ℕ) → List Form → List NamedUse
uses_after line net outputs [] = []
uses_after line net outputs (f ∷ fs) = line_uses line net outputs f ++ uses_after (line + 1) (net + length (nets_of f)) (outputs ++ new_output outputs f) fs

-- the numbers of the inputs of lines, after lines with so many nets
abbrev pub inputs_after : ℕ → List Form → List ℕ
inputs_after net [] = []
inputs_after net (f ∷ fs) = map (λ n. net) (inputs_of f) ++ inputs_after (net + length (nets_of f)) fs

-- the pin that a use makes
abbrev pub use_pin : List (List ℕ) → NamedUse → Pin
use_pin defined u = record { net = net_number defined u.name; place = u.place }

-- the pin of an operand of a net, by its place among the operands and its name
abbrev pub operand_pin : List (List ℕ) → ℕ → ℕ × List ℕ → Pin
operand_pin defined net o = record { net = net_number defined o.1; place = Operand net o.0 }

-- the number of the line of the first use of a net that is none of these
abbrev pub undefined_use : List (List ℕ) → List NamedUse → Option ℕ
undefined_use defined [] = None
undefined_use defined (u ∷ us) = if has_word defined u.name then undefined_use defined us else Some u.line

-- the fault of such a line, and want of memory says nothing
abbrev pub IsUndefined : ReadFault → Option ℕ → Type 0
IsUndefined (Text f) first = (first ≡ Some f.line) × (f.rule ≡ UNDEFINED_NET)
IsUndefined NoMemory first = Unit {0}
