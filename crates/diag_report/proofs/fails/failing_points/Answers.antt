use Rattle.std.proofs.Common.{◌∙◌}
use Rattle.diag_report.proofs.FailSteps.{point_kept, point_left}
use Rattle.diag_report.proofs.fails.failing_points.Goals.{then-word-ne0+in_ok-push, else-word-ne0}
use Rattle.diag_report.proofs.fails.failing_points.Goals as goal

pub loop-point-preserved : goal.loop-point-preserved
loop-point-preserved c =
    let fails = c.args.fails.now in
    let k = c.loop-point.point in
    elim c.if-word-ne0.branch [
      | then-word-ne0+in_ok-push b ↦ b.points-is ∙ point_kept fails k _ c.loop-point.points b.push.new.self c.loop-point-test.true b.if-word-ne0.true c.loop-point.invariant b.in_ok-push.ensures.ok
      | else-word-ne0 b ↦ b.points-is ∙ point_left fails k _ c.loop-point.points c.loop-point-test.true b.if-word-ne0.false c.loop-point.invariant
    ]
