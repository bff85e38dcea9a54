-- The texts that a program holds.
use Rattle.design_bundle.specs.declared.bundle.Sections.{Sections}
use Rattle.design_bundle.specs.FourTexts.{FourTexts}

abbrev pub four_texts : Sections → FourTexts
four_texts texts = record { profile = texts.profile; netlist = texts.netlist.now; scan = texts.scan.now; patterns = texts.patterns.now; neighbours = texts.neighbours.now }
