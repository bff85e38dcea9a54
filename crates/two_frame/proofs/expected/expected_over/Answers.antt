use Rattle.std.proofs.Common.{◌≡◌, ◌∙◌, length, sym, ap}
use Rattle.std.proofs.lemmas.Result.{IfOk-weaker}
use Rattle.log_join.specs.Joining.{JoinedBits, IsJoinedOf, FitsExpected}
use Rattle.scan_model.specs.ScanTest.{points_of}
use Rattle.two_frame.specs.TwoFrame.{frame_rows}
use Rattle.two_frame.proofs.FrameResponses.{length-frame_rows, frame_points, fits_frames}
use Rattle.two_frame.proofs.expected.expected_over.Goals as goal

pub expected_of-requires-clause-patterns : goal.expected_of-requires-clause-patterns
expected_of-requires-clause-patterns c = length-frame_rows c.args.parts.now ∙ sym (c.len-patterns.ensures ∙ ap length c.patterns.ensures.value)

pub expected_of-requires-clause-whole : goal.expected_of-requires-clause-whole
expected_of-requires-clause-whole c = λ k d lt. frame_points c.args.parts.now k d lt ∙ sym (c.len.ensures ∙ ap length c.points.ensures.value)

pub returns-clause-fits : goal.returns-clause-fits
returns-clause-fits c =
    let t = c.args.parts.now in
    IfOk-weaker c.expected_of.result (λ e. e ≡ frame_rows t) (λ e. (joined : JoinedBits) → IsJoinedOf (length t.patterns) (length (points_of t)) joined → FitsExpected e joined) (λ e is joined size. fits_frames t e joined is size) c.expected_of.ensures
