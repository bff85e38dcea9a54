-- What a bundle and its four texts stand for.
use Rattle.std.specs.Prelude.{ℕ, List, Option, Some, None, Result, Ok, Err}
use Rattle.scan_model.specs.ScanTest.{ScanTest}
use Rattle.design_bundle.specs.FourTexts.{FourTexts}
use Rattle.design_bundle.specs.Bundle.{bundle_fault, bundle_texts}
use Rattle.diagnosis.specs.declared.section.Section.{Section}
use Rattle.diagnosis.specs.declared.section.Section.TheVariants.{Bundle, Netlist, Scan, Patterns, Neighbours}
use Rattle.diagnosis.specs.Texts.{Place, Source, value, and_then, source_reading}

-- a text in its section
abbrev pub in_section : Section → List ℕ → Place Section (ℕ × ℕ)
in_section section text = record { name = section; text = Ok text }

abbrev pub texts_source : FourTexts → Source Section (ℕ × ℕ)
texts_source texts = record {
  profile = texts.profile;
  netlist = in_section Netlist texts.netlist;
  scan = in_section Scan texts.scan;
  patterns = in_section Patterns texts.patterns;
  neighbours = in_section Neighbours texts.neighbours;
  rule = λ fault. fault;
}

-- the scan test of the four texts, or the first of them that breaks a rule, with its first fault
abbrev pub texts_reading : FourTexts → Result ScanTest (Section × (ℕ × ℕ))
texts_reading texts = (and_then (source_reading (texts_source texts)) (λ read. value read.test)).outcome

abbrev pub refused_or_read : Option (ℕ × ℕ) → FourTexts → Result ScanTest (Section × (ℕ × ℕ))
refused_or_read None texts = texts_reading texts
refused_or_read (Some fault) texts = Err (Bundle, fault)

-- what reading a bundle gives: rule 81 comes before the rules of its texts
abbrev pub bundle_reading : List ℕ → Result ScanTest (Section × (ℕ × ℕ))
bundle_reading bytes = refused_or_read (bundle_fault bytes) (bundle_texts bytes)
