use Rattle.std.proofs.Common.{ℕ, subst}
use Rattle.scan_model.specs.declared.fault.Fault.TheVariants as fault
use Rattle.scan_model.specs.declared.parts.Point.TheVariants.{Cell}
use Rattle.scan_model.specs.Suspect.{observed_net}
use Rattle.fault_effects.specs.Walks.{AreFreshAt}
use Rattle.fault_effects.proofs.WalkNotes.{net_kept, done_kept, renoted_join}
use Rattle.fault_effects.proofs.walk.note_step.Goals as goal

pub returns-clause-step : goal.returns-clause-step
returns-clause-step g c =
    let t = c.args.work.now.parts.now in
    let m = g.O.Observer.model c.args.work.now.observer.now in
    let b = c.args.work.now.block in
    let h = c.args.cell.0 in
    let f = fault.Cell h c.args.cell.1 c.args.kind in
    let old = c.args.notes.now.rows.items in
    let moved = c.note_moved.new.notes.rows.items in
    let mid = c.note_position.new.notes.rows.items in
    let new = c.note_position-2.new.notes.rows.items in
    let Above : ℕ → Type 0 = λ i. AreFreshAt t m b f new (observed_net t (Cell h i)) in
    record {
      renoted = renoted_join m b f old mid new (renoted_join m b f old moved mid c.note_moved.ensures.renoted c.note_position.ensures.renoted) c.note_position-2.ensures.renoted;
      moved = λ n lt is. done_kept m b f t h mid new c.note_position-2.ensures.renoted n (done_kept m b f t h moved mid c.note_position.ensures.renoted n (c.note_moved.ensures.done n lt is));
      here = net_kept m b f t mid new c.note_position-2.ensures.renoted _ c.note_position.ensures.fresh;
      above = subst Above c.requires.above c.note_position-2.ensures.fresh;
    }
