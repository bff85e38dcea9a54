use Rattle.std.proofs.Common.{◌∙◌}
use Rattle.scan_model.specs.declared.fault.Fault.TheVariants.{Branch}
use Rattle.fault_effects.specs.FaultModel.{Table, point_model, straight_in}
use Rattle.slat_view.proofs.Tables.{clear_fits}
use Rattle.slat_view.proofs.observer.FitsObserver.straight.Goals as goal

pub returns : goal.returns
returns c = λ j lt.
    let o = c.args.self.now in
    let table : Table = straight_in (point_model o.points.parts.now) o.points.block (Branch c.args.pin c.args.value) in
    c.and.ensures j lt ∙ rw (c.in_ok-clear.ensures table c.in_ok-shown.ensures j lt, o.failing_right j lt) (clear_fits o.points.rows.now table j)
