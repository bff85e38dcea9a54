-- Where each pattern captures, each that is there does.
use Rattle.std.proofs.Common.{◌≡◌, ℕ, ◌<◌, true, Bool, ◌&&◌, length, ap, ◌∙◌}
use Rattle.std.proofs.lemmas.Bool.{lt-ltb}
use Rattle.scan_model.specs.declared.parts.PatternKind.TheVariants.{Capture}
use Rattle.scan_model.specs.ScanTest.{ScanTest, pattern_at, no_pattern}
use Rattle.lane_rows.specs.GoodRows.{same_kind}
use Rattle.lane_rows.specs.Stimuli.{captures}
use Rattle.two_frame.specs.FrameRows.{AllCapture}

pub captured : (t : ScanTest) → AllCapture t → (w : ℕ) → w < length t.patterns → captures t w ≡ true
captured t all w lt = ap (λ (b : Bool). b && same_kind Capture (pattern_at t w).kind) (lt-ltb w (length t.patterns) lt) ∙ ap (same_kind Capture) (all w no_pattern lt)
