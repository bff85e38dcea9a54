use Rattle.std.proofs.Common.{sym, subst}
use Rattle.lane_rows.specs.Stimuli.{AreRowsOf}
use Rattle.packed_sim.specs.declared.good.PackedGood.{PackedGood}
use Rattle.packed_sim.specs.PackedParts.{IsBuiltFor}
use Rattle.frame_rows.specs.SecondRows.{second_stimuli}
use Rattle.two_frame.proofs.frame_observer.FrameCountsObserver.downstream.Goals as goal

pub flips_behind-requires-clause-built : goal.flips_behind-requires-clause-built
flips_behind-requires-clause-built c = let Built : PackedGood → Type 0 = IsBuiltFor c.args.self.now.points.parts.now in subst Built (sym c.args.self.now.second) c.requires.ready.built

pub returns : goal.returns
returns c =
    let t = c.args.self.now.points.parts.now in
    let Rows : PackedGood → Type 0 = λ good. AreRowsOf t.netlist (second_stimuli t) good.rows in
    c.flips_behind.ensures (second_stimuli t) (subst Rows (sym c.args.self.now.second) c.requires.ready.second)
