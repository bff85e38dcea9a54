use Rattle.std.proofs.Common.{arith}
use Rattle.fault_effects.proofs.WalkSteps.{unmarked_loaded, all_fresh}
use Rattle.fault_effects.proofs.walk.step.Goals as goal

pub returns : goal.returns
returns g c =
    let t = c.args.work.now.parts.now in
    let good = c.args.work.now.good.now in
    let b = c.args.work.now.block in
    let h = c.args.cell.0 in
    let pos = c.args.cell.1 in
    let K = c.args.kind in
    let was = c.requires.walk in
    let noted = c.note_step.ensures.step in
    record {
      chain = was.chain;
      pos = omega (arith, was.pos);
      loaded = unmarked_loaded t good b h pos K c.load_more.new.scratch c.clear_marks.new.scratch c.clear_marks.ensures.rows c.clear_marks.ensures.waiting c.clear_marks.ensures.room c.load_more.ensures.loaded;
      noted = c.note_step.ensures.notes;
      fresh = all_fresh t c.chains.ensures.fits good c.requires.work.belongs b c.args.work.now.block_within h was.chain K pos c.args.scratch.now c.load_more.new.scratch was.loaded c.load_more.ensures.loaded c.load_more.ensures.moved
          (g.O.Observer.model c.args.work.now.observer.now) c.requires.work.chains c.args.notes.now.rows.items c.note_step.new.notes.rows.items was.fresh noted.renoted noted.moved noted.here noted.above;
    }
