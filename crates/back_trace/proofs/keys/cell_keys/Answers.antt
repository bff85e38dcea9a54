use Rattle.std.proofs.Common.{◌∙◌, ◌<◌, length}
use Rattle.scan_model.specs.declared.parts.Point.TheVariants.{Output}
use Rattle.scan_model.specs.ScanTest.{points_of}
use Rattle.scan_model.specs.Suspect.{is_cell}
use Rattle.scan_model.proofs.Points.{points_are_points}
use Rattle.back_trace.proofs.NetRows.{keys_more}
use Rattle.back_trace.proofs.keys.cell_keys.Goals as goal

pub own_net-requires : goal.own_net-requires
own_net-requires c =
    let t = c.args.parts.now in
    let is = c.as_slice-points.ensures ∙ c.points.ensures.value in
    let lt : c.loop-k.k < length (points_of t) = rw is at c.loop-k-test.true in
    rw is (points_are_points t c.loop-k.k (Output 0) lt)

pub loop-k-preserved : goal.loop-k-preserved
loop-k-preserved c =
    let t = c.args.parts.now in
    let is = c.as_slice-points.ensures ∙ c.points.ensures.value in
    keys_more t (is_cell t) c.loop-k.k c.loop-k.keys.items c.push.new.self.items c.own_net.result c.in_ok-push.ensures.items c.loop-k.invariant c.own_net.ensures.below
    (rw is at c.own_net.ensures.key)
