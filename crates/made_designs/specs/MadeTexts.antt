-- The texts of the design that the generator makes, and the draw that comes after them.
use Rattle.std.specs.Prelude.{◌≡◌, ℕ, Ok}
use Rattle.design_bundle.specs.FourTexts.{FourTexts}
use Rattle.diagnosis.specs.Bundle.{texts_reading}
use Rattle.scan_model.specs.ScanTest.{ScanTest}
use Rattle.scan_model.specs.declared.fault.Profile.TheVariants.{One}
use Rattle.made_laws.specs.MadeNetlist.{made_netlist}
use Rattle.made_laws.specs.MadeScan.{made_scan}
use Rattle.made_laws.specs.MadePatterns.{made_patterns, first_draw}
use Rattle.made_laws.specs.MadePairs.{made_pairs}

abbrev pub made_texts : ℕ → ℕ → FourTexts
made_texts seed blocks = record {
  profile = One;
  netlist = made_netlist seed blocks;
  scan = made_scan blocks;
  patterns = made_patterns seed blocks;
  neighbours = made_pairs blocks;
}

-- how many draws the texts take
abbrev pub text_draws : ℕ → ℕ
text_draws blocks = first_draw blocks 512

-- texts that break no rule, by what they stand for
pub record BreakNoRule (texts : FourTexts) : Type 0 where
  pub test : ScanTest
  pub stands : texts_reading texts ≡ Ok test
