-- What the whole text comes to, from what the texts that are made stand for.
use Rattle.std.proofs.Common.{◌≡◌, ℕ, List, Result, Ok, Err, sym, ap, subst, ◌∙◌}
use Rattle.scan_model.specs.ScanTest.{ScanTest}
use Rattle.design_bundle.specs.FourTexts.{FourTexts}
use Rattle.diagnosis.specs.declared.section.Section.{Section}
use Rattle.diagnosis.specs.Bundle.{texts_reading}
use Rattle.made_designs.specs.MadeTexts.{BreakNoRule, made_texts}
use Rattle.made_designs.specs.Demo.{demo_written, text_over}
use Rattle.made_designs.specs.InjectedFaults.{IsText}

-- texts that break no rule aren't refused
pub not_refused : (texts : FourTexts) → BreakNoRule texts → (refused : Section × (ℕ × ℕ)) → texts_reading texts ≡ Err refused → ⊥
not_refused texts legal refused is = let stands : texts_reading texts ≡ Ok legal.test = legal.stands in cc

module _ (seed blocks : ℕ) (texts : FourTexts) (made : texts ≡ made_texts seed blocks) where
  pub text_read : (t : ScanTest) (text : List ℕ) → texts_reading texts ≡ Ok t → IsText seed blocks t text → text ≡ demo_written seed blocks
  text_read t text stands written = written.is ∙ sym (ap (λ (x : FourTexts). text_over seed blocks (texts_reading x)) (sym made) ∙ ap (text_over seed blocks) stands)
