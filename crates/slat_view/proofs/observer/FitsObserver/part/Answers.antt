use Rattle.std.proofs.Common.{◌&&◌, ap, ◌∙◌, Bool}
use Rattle.lane_rows.specs.Lanes.{lane}
use Rattle.slat_view.proofs.Tables.{fits_masked}
use Rattle.slat_view.proofs.observer.FitsObserver.part.Goals as goal

pub returns : goal.returns
returns c = λ table clear j lt.
    c.and-2.ensures j lt
    ∙ rw (c.and.ensures j lt, clear j lt, c.args.self.now.failing_right j lt) (fits_masked c.args.self.now.points.rows.now table c.args.lanes j)
