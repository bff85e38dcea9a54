use Rattle.lane_rows.specs.Stimuli.{stimuli_of}
use Rattle.lane_rows.proofs.RowsOfTest.{good_rows-rows}
use Rattle.match_counts.proofs.point_observer.PointCountsObserver.downstream.Goals as goal

pub returns : goal.returns
returns c = c.flips_behind.ensures (stimuli_of c.args.self.now.parts.now) (good_rows-rows c.args.self.now.parts.now c.args.self.now.good.now.rows c.requires.ready.rows)
