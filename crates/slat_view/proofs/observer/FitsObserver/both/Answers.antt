use Rattle.std.proofs.Common.{◌∙◌}
use Rattle.slat_view.proofs.Tables.{fits_both}
use Rattle.slat_view.proofs.observer.FitsObserver.both.Goals as goal

pub returns : goal.returns
returns c = λ a b is_a is_b apart j lt.
    c.or.ensures j lt ∙ rw (is_a j lt, is_b j lt) (fits_both c.args.self.now.points.rows.now a b j (λ q p. apart q p j lt))
