use Rattle.std.proofs.Common.{◌∙◌, ◌<◌, length}
use Rattle.scan_model.specs.declared.parts.Point.TheVariants.{Output}
use Rattle.scan_model.specs.ScanTest.{points_of}
use Rattle.scan_model.proofs.Points.{points_are_points}
use Rattle.back_trace.proofs.keys.observed_keys.Goals as goal

pub observed_net-requires : goal.observed_net-requires
observed_net-requires c =
    let t = c.args.parts.now in
    let is = c.as_slice-points.ensures ∙ c.points.ensures.value in
    let lt : c.loop-k.k < length (points_of t) = rw is at c.loop-k-test.true in
    rw is (points_are_points t c.loop-k.k (Output 0) lt)
