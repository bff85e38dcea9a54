use Rattle.std.proofs.Common.{◌≡◌, length, map, ap, ◌∙◌}
use Rattle.scan_model.specs.ScanTest.{ScanTest, points_of}
use Rattle.fail_logs.proofs.TestFrame.{test_points}
use Rattle.fail_logs.proofs.frame.Frame.of_parts.Goals as goal

pub make-requires-clause-names : goal.make-requires-clause-names
make-requires-clause-names c =
    let t : ScanTest = c.args.parts.now in
    let chains : c.in_ok-chains.chains ≡ map (λ h. h.name) t.chains = c.in_ok-chains.ensures ∙ ap (map (λ h. h.name)) (c.as_slice.ensures ∙ c.chains.ensures.value) in
    rw chains c.chains.ensures.fits.chains.names_differ

pub make-requires-clause-points : goal.make-requires-clause-points
make-requires-clause-points c =
    let t : ScanTest = c.args.parts.now in
    let lengths : c.in_ok-lengths.lengths.items ≡ map (λ h. length h.cells) t.chains = c.in_ok-lengths.ensures ∙ ap (map (λ h. length h.cells)) (c.as_slice-2.ensures ∙ c.chains-2.ensures.value) in
    let points : c.as_slice-points.result.now ≡ points_of t = c.as_slice-points.ensures ∙ c.points.ensures.value in
    rw (lengths, points) (test_points t)
