-- The sections of texts, and why a bundle isn't read.
use Rattle.std.specs.Prelude.{ℕ}
use Rattle.diagnosis.specs.declared.section.Section.{Section}
use Rattle.diagnosis.specs.declared.section.Section.TheVariants as section
use Rattle.diagnosis.specs.declared.section.DesignText.{DesignText}
use Rattle.diagnosis.specs.declared.section.DesignText.TheVariants.{Netlist, Scan, Patterns, Neighbours}
use Rattle.diagnosis.specs.declared.section.BundleFault.{BundleFault}
use Rattle.diagnosis.specs.declared.section.BundleFault.TheVariants as fault
use Rattle.diagnosis.specs.TextHalts.{Halt, refused, no_memory}

-- the section of a text
abbrev pub section_of : DesignText → Section
section_of Netlist = section.Netlist
section_of Scan = section.Scan
section_of Patterns = section.Patterns
section_of Neighbours = section.Neighbours

-- why a bundle isn't read, as its reading speaks of it
abbrev pub halt_of : BundleFault → Halt Section (ℕ × ℕ)
halt_of (fault.Text section f) = refused section (f.line, f.rule)
halt_of fault.NoMemory = no_memory
