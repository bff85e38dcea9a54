-- Words at the end of a line, and pins whose nets are there.
use Rattle.std.specs.Prelude.{ℕ, ◌<◌, List, ◌∷◌, flat_map}
use Rattle.scan_model.specs.declared.circuit.PinPlace.{PinPlace}
use Rattle.scan_model.specs.declared.circuit.PinPlace.TheVariants.{Operand, Output}

-- each word with a space before it
abbrev pub after_spaces : List (List ℕ) → List ℕ
after_spaces words = flat_map (λ word. 32 ∷ word) words

-- a net that reads through a pin is one of so many
abbrev pub IsPlaceOf : ℕ → PinPlace → Type 0
IsPlaceOf nets (Operand n i) = n < nets
IsPlaceOf nets (Output k) = Unit {0}
