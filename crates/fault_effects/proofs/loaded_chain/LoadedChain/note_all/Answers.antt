use Rattle.fault_effects.proofs.WalkStart.{begun_fresh}
use Rattle.fault_effects.proofs.loaded_chain.LoadedChain.note_all.Goals as goal

pub returns-clause-fresh : goal.returns-clause-fresh
returns-clause-fresh g c =
    let self = c.args.self.now in
    let t = self.work.now.parts.now in
    begun_fresh t c.points.ensures.fits self.work.now.good.now c.requires.work.belongs self.work.now.block self.work.now.block_within self.chain self.pos self.kind self.scratch.now self.loaded
    (g.O.Observer.model self.work.now.observer.now) c.requires.work.chains c.clear_notes.new.notes.rows.items c.note_touched.new.notes.rows.items c.note_chain.new.notes.rows.items
    c.in_ok-clear_notes.ensures.none c.note_touched.ensures.renoted c.note_chain.ensures.renoted c.note_touched.ensures.fresh c.note_chain.ensures.fresh
