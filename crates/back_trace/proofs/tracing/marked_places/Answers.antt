use Rattle.scan_model.proofs.FanSweeps.{marked_more_yes, marked_more_no}
use Rattle.back_trace.proofs.tracing.marked_places.Goals as goal
use Rattle.back_trace.proofs.tracing.marked_places.Goals.{then-marks-place+in_ok-push, else-marks-place}

pub loop-place-preserved : goal.loop-place-preserved
loop-place-preserved c = elim c.if-marks-place.branch [
  | then-marks-place+in_ok-push w ↦ rw w.places-is (marked_more_yes c.args.marks.now c.loop-place.place c.loop-place.places w.push.new.self w.if-marks-place.true c.loop-place.invariant w.in_ok-push.ensures.ok)
  | else-marks-place w ↦ rw w.places-is (marked_more_no c.args.marks.now c.loop-place.place c.loop-place.places w.if-marks-place.false c.loop-place.invariant)
]
