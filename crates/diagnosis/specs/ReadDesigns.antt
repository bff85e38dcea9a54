-- What a program has read of a design, as its reading speaks of it. `shows` gives the bytes of a text.
use Rattle.std.specs.Prelude.{◌≡◌, ℕ, List, Result, Ok, Err}
use Rattle.text_parts.specs.declared.fault.ReadFault.{ReadFault}
use Rattle.scan_model.specs.declared.fault.Profile.{Profile}
use Rattle.scan_model.specs.Netlist.{Netlist}
use Rattle.scan_model.specs.ScanTest.{scan_test}
use Rattle.design_bundle.specs.FourTexts.{four}
use Rattle.diagnosis.specs.declared.texts.TextReading.{TextReading}
use Rattle.diagnosis.specs.declared.texts.TestReadings.{TestReadings}
use Rattle.diagnosis.specs.declared.texts.ReadDesign.{ReadDesign}
use Rattle.diagnosis.specs.Texts.{ReadTexts}
use Rattle.diagnosis.specs.TextHalts.{Halt}

abbrev pub shown_text : {T X : Type 0} → (T → List ℕ) → TextReading T X → List ℕ × X
shown_text shows j = (shows j.text, j.value)

-- the design of a netlist with its circuit, and of the texts that were read over it
abbrev pub shown_over : {T : Type 0} → Profile → (T → List ℕ) → List ℕ × Netlist → TestReadings T → ReadTexts
shown_over profile shows c over = record {
  texts = four profile c.0 (shows over.chains.text) (shows over.patterns.text) (shows over.pairs.text);
  test = scan_test profile c.1 over.chains.value over.patterns.value over.pairs.value;
}

abbrev pub shown_design : {T : Type 0} → (T → List ℕ) → ReadDesign T → ReadTexts
shown_design shows d = record { texts = four d.parts.profile (shows d.netlist) (shows d.scan) (shows d.patterns) (shows d.neighbours); test = d.parts }

-- a text with what its reader answered, or a stop for the fault
abbrev pub IsReading : {N R T X S : Type 0} → (S → Halt N R) → (ReadFault → Halt N R) → T → Result X ReadFault → Result (TextReading T X) S → Type 0
IsReading halt why text (Ok x) (Ok j) = (j.text ≡ text) × (j.value ≡ x)
IsReading halt why text (Err fault) (Err stop) = halt stop ≡ why fault
IsReading halt why text (Ok x) (Err stop) = ⊥
IsReading halt why text (Err fault) (Ok j) = ⊥
