use Rattle.std.proofs.Common.{◌∙◌}
use Rattle.slat_view.proofs.Tables.{clear_fits}
use Rattle.slat_view.proofs.chain_observer.FitsChainObserver.total.Goals as goal

pub returns : goal.returns
returns c = λ table are j lt.
    let rows = c.args.self.now.points.rows.now in
    c.and.ensures j lt ∙ rw (c.zeros.ensures j lt, are j lt, c.args.self.now.failing_right j lt) (clear_fits rows table j)
