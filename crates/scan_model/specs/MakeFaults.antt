-- What a refusal of the maker of circuits says.
use Rattle.std.specs.Prelude.{ℕ}
use Rattle.scan_model.specs.declared.circuit.MakeFault.{MakeFault}
use Rattle.scan_model.specs.declared.circuit.MakeFault.TheVariants.{NoLevel, NoMemory}

-- where the refusal names a net, the fact holds of it
abbrev pub IfNoLevel : MakeFault → (ℕ → Type 0) → Type 0
IfNoLevel (NoLevel n) Fact = Fact n
IfNoLevel NoMemory Fact = Unit {0}
