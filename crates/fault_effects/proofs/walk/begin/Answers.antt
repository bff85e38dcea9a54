use Rattle.fault_effects.proofs.WalkSteps.{unmarked_loaded}
use Rattle.fault_effects.proofs.walk.begin.Goals as goal

pub invariant_of-loaded-clause-loaded : goal.invariant_of-loaded-clause-loaded
invariant_of-loaded-clause-loaded g c =
    unmarked_loaded c.args.work.now.parts.now c.args.work.now.good.now c.args.work.now.block c.args.cell.0 c.args.cell.1 c.args.kind c.load.new.scratch c.clear_marks.new.scratch c.clear_marks.ensures.rows c.clear_marks.ensures.waiting c.clear_marks.ensures.room c.load.ensures.loaded
