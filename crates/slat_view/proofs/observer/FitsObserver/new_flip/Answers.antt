use Rattle.std.proofs.Common.{Bool, not, ap, ◌∙◌}
use Rattle.slat_view.proofs.Tables.{none_clear}
use Rattle.slat_view.proofs.observer.FitsObserver.new_flip.Goals as goal

pub returns : goal.returns
returns c = λ j lt. c.not.ensures j lt ∙ ap not (c.args.self.now.failing_right j lt) ∙ none_clear c.args.self.now.points.rows.now j
