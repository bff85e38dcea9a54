use Rattle.std.proofs.Common.{sym, subst}
use Rattle.std.proofs.lemmas.Result.{on_ok_weaker}
use Rattle.lane_rows.specs.Stimuli.{AreRowsOf}
use Rattle.packed_sim.specs.declared.good.PackedGood.{PackedGood}
use Rattle.packed_sim.specs.PackedParts.{IsBuiltFor, IsScratchOf}
use Rattle.frame_rows.specs.SecondRows.{second_stimuli}
use Rattle.two_frame.proofs.frame_observer.FrameCountsObserver.flip.Goals as goal

pub show-requires-clause-built : goal.show-requires-clause-built
show-requires-clause-built g c = let Built : PackedGood → Type 0 = IsBuiltFor c.args.self.now.points.parts.now in subst Built (sym c.args.self.now.second) c.requires.ready.built

pub show-requires-clause-scratch : goal.show-requires-clause-scratch
show-requires-clause-scratch g c = let Clean : PackedGood → Type 0 = λ good. IsScratchOf good c.args.scratch.now in subst Clean (sym c.args.self.now.second) c.requires.scratch

pub returns-clause-scratch : goal.returns-clause-scratch
returns-clause-scratch g c = let Clean : PackedGood → Type 0 = λ good. IsScratchOf good c.show.new.scratch in subst Clean c.args.self.now.second c.show.ensures.scratch

pub returns-clause-flip : goal.returns-clause-flip
returns-clause-flip g c =
    let t = c.args.self.now.points.parts.now in
    let Rows : PackedGood → Type 0 = λ good. AreRowsOf t.netlist (second_stimuli t) good.rows in
    on_ok_weaker c.show.result (λ shows. shows (second_stimuli t) (subst Rows (sym c.args.self.now.second) c.requires.ready.second)) c.show.ensures.flip
