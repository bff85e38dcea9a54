-- Why reading the texts of a design stops.
use Rattle.std.specs.Prelude.{◌≡◌, ℕ, Bool, true, false, List, Result, Ok, Err, Contains}
use Rattle.text_parts.specs.declared.fault.ReadFault.{ReadFault}
use Rattle.text_parts.specs.declared.fault.ReadFault.TheVariants as answer
use Rattle.diagnosis.specs.declared.section.DesignText.{DesignText}
use Rattle.diagnosis.specs.declared.section.DesignText.TheVariants as text
use Rattle.diagnosis.specs.Texts.{Reading, Place, Source}

-- a text is refused, one can't be had, or memory ran out
pub data Halt (N R : Type 0) : Type 0 where
  refused : N → R → Halt N R
  failed : N → Halt N R
  no_memory : Halt N R

abbrev pub is_failure : {N R : Type 0} → Halt N R → Bool
is_failure (refused name why) = false
is_failure (failed name) = true
is_failure no_memory = false

-- the answer is a failure to have a text, where `halt` says what its stop is
abbrev pub ends_by_failure : {N R A S : Type 0} → (S → Halt N R) → Result A S → Bool
ends_by_failure halt (Ok x) = false
ends_by_failure halt (Err stop) = is_failure (halt stop)

-- the place of one of the four texts
abbrev pub place_of : {N R : Type 0} → Source N R → DesignText → Place N R
place_of source text.Netlist = source.netlist
place_of source text.Scan = source.scan
place_of source text.Patterns = source.patterns
place_of source text.Neighbours = source.neighbours

-- what a stop for a fault of the text at this place is
abbrev pub halt_at : {N R : Type 0} → Place N R → (ℕ × ℕ → R) → ReadFault → Halt N R
halt_at place rule (answer.Text fault) = refused place.name (rule (fault.line, fault.rule))
halt_at place rule answer.NoMemory = no_memory

-- a stop at this place, which has no text where it is refused
abbrev pub HaltsAt : {N R : Type 0} → Place N R → Halt N R → Type 0
HaltsAt place (refused name why) = (name ≡ place.name) × (place.text ≡ Err why)
HaltsAt place (failed name) = name ≡ place.name
HaltsAt place no_memory = Unit {0}

-- the answer is the text at this place, or a stop at it
abbrev pub IsHad : {N R T S : Type 0} → (T → List ℕ) → (S → Halt N R) → Place N R → Result T S → Type 0
IsHad bytes halt place (Ok text) = place.text ≡ Ok (bytes text)
IsHad bytes halt place (Err stop) = HaltsAt place (halt stop)

-- the stop is what reading comes to, up to a failure at a text that is read, and want of memory
abbrev pub HaltsAs : {N R X : Type 0} → Halt N R → Reading N R X → Type 0
HaltsAs (refused name why) reading = reading.outcome ≡ Err (name, why)
HaltsAs (failed name) reading = Contains reading.read name
HaltsAs no_memory reading = Unit {0}

-- the answer, seen by `view`, is what reading comes to, up to the same
abbrev pub ComesTo : {N R A S X : Type 0} → (S → Halt N R) → (A → X) → Result A S → Reading N R X → Type 0
ComesTo halt view (Ok x) reading = reading.outcome ≡ Ok (view x)
ComesTo halt view (Err stop) reading = HaltsAs (halt stop) reading
