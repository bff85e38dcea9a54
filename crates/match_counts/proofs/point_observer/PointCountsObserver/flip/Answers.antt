use Rattle.std.proofs.lemmas.Result.{on_ok_weaker}
use Rattle.lane_rows.specs.Stimuli.{stimuli_of}
use Rattle.lane_rows.proofs.RowsOfTest.{good_rows-rows}
use Rattle.match_counts.proofs.point_observer.PointCountsObserver.flip.Goals as goal

pub returns-clause-flip : goal.returns-clause-flip
returns-clause-flip g c =
    let o = c.args.self.now in
    on_ok_weaker c.show.result (λ shows. shows (stimuli_of o.parts.now) (good_rows-rows o.parts.now o.good.now.rows c.requires.ready.rows)) c.show.ensures.flip
