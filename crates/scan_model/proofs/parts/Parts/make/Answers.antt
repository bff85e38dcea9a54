use Rattle.std.proofs.Common.{arith}
use Rattle.scan_model.specs.ScanTest.{scan_test, IsSoundTest}
use Rattle.scan_model.proofs.PointCount.{outputs_few, longest_few, points_few}
use Rattle.scan_model.proofs.parts.Parts.make.Goals as goal

pub points_and_index-requires-clause-outputs : goal.points_and_index-requires-clause-outputs
points_and_index-requires-clause-outputs c = rw (c.len-outputs.ensures, c.outputs.ensures.value) (omega (arith, outputs_few c.args.circuit c.requires.circuit))

pub points_and_index-requires-clause-cells : goal.points_and_index-requires-clause-cells
points_and_index-requires-clause-cells c = rw c.as_slice.ensures (longest_few c.args.circuit c.args.chains c.requires.circuit c.requires.chains)

pub invariant_of-result : goal.invariant_of-result
invariant_of-result c =
    let sound : IsSoundTest (scan_test c.args.profile c.args.circuit c.args.chains c.args.patterns c.args.pairs) c.in_ok-points.points = record {
      fits = c.requires;
      in_order = rw (← c.outputs.ensures.value, ← c.len-outputs.ensures, ← c.as_slice.ensures) c.in_ok-points.ensures.points;
      few = points_few (scan_test c.args.profile c.args.circuit c.args.chains c.args.patterns c.args.pairs) c.requires;
    } in
    (sound, rw (← c.as_slice-2.ensures) c.in_ok-points.ensures.index)
