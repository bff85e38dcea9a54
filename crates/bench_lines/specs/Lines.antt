-- Lines without where they lie in memory.
use Rattle.scan_model.specs.NetlistLines.{Form, nothing, input, output, definition, no_form, driver_named}
use Rattle.std.specs.Prelude.{ℕ, ◌≡◌, List}
use Rattle.bench_lines.specs.declared.line.Kind.{Kind}
use Rattle.bench_lines.specs.declared.line.Kind.TheVariants.{Nothing, Input, Output, Definition, NoForm}

-- what a line is, with these operands if it is a definition
abbrev pub kind_view : List (List ℕ) → Kind → Form
kind_view operands Nothing = nothing
kind_view operands (Input n) = input n.now
kind_view operands (Output n) = output n.now
kind_view operands (Definition n word driver) = definition n.now word.now operands
kind_view operands NoForm = no_form

-- a definition has the driver that its word names
abbrev pub HasItsDriver : Kind → Type 0
HasItsDriver (Definition n word driver) = driver ≡ driver_named word.now
HasItsDriver k = Unit {0}
