-- The bundle of four texts that stand for a scan test stands for the same.
use Rattle.std.proofs.Common.{◌≡◌, Ok}
use Rattle.scan_model.specs.ScanTest.{ScanTest}
use Rattle.design_bundle.specs.FourTexts.{FourTexts}
use Rattle.design_bundle.specs.Bundle.{bundle_text}
use Rattle.diagnosis.specs.Bundle.{texts_reading, bundle_reading}
use Rattle.diagnosis.proofs.Unmarked.{unmarked}
use Rattle.diagnosis.proofs.Packed.{unmarked_reads}

pub packed_reads : (texts : FourTexts) (t : ScanTest) → texts_reading texts ≡ Ok t → bundle_reading (bundle_text texts) ≡ Ok t
packed_reads texts t e = unmarked_reads texts (unmarked texts t e) t e
