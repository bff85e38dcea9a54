-- Texts of which no line begins with `%`.
use Rattle.std.specs.Prelude.{◌≡◌, false, All}
use Rattle.scan_model.specs.Lines.{pieces}
use Rattle.text_parts.specs.TextEnd.{ended}
use Rattle.design_bundle.specs.FourTexts.{FourTexts}
use Rattle.design_bundle.specs.Bundle.{is_mark}

pub record AreUnmarked (texts : FourTexts) : Type 0 where
  pub netlist : All (λ piece. is_mark piece ≡ false) (pieces (ended texts.netlist))
  pub scan : All (λ piece. is_mark piece ≡ false) (pieces (ended texts.scan))
  pub patterns : All (λ piece. is_mark piece ≡ false) (pieces (ended texts.patterns))
  pub neighbours : All (λ piece. is_mark piece ≡ false) (pieces (ended texts.neighbours))
