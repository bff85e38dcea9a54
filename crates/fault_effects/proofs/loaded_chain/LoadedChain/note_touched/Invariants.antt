use Rattle.std.proofs.Common.{ℕ, ◌<◌, get_or}
use Rattle.scan_model.specs.declared.fault.Fault.TheVariants as fault
use Rattle.fault_effects.specs.Notes.{AreNotes}
use Rattle.fault_effects.specs.Walks.{AreFreshAt, IsRenoted}
use Rattle.fault_effects.proofs.loaded_chain.LoadedChain.note_touched.Given as goal

abbrev pub invariant-loop-net : goal.invariant-loop-net
invariant-loop-net g l = record {
  notes : AreNotes (g.O.ChainObserver.sums l.self.work.now.observer.now) (g.O.Observer.model l.self.work.now.observer.now).places l.notes;
  renoted : IsRenoted (g.O.Observer.model l.self.work.now.observer.now) l.self.work.now.block (fault.Cell l.self.chain l.self.pos l.self.kind) l.initial.notes.rows.items l.notes.rows.items;
  fresh : (i : ℕ) → i < l.net-index → AreFreshAt l.self.work.now.parts.now (g.O.Observer.model l.self.work.now.observer.now) l.self.work.now.block (fault.Cell l.self.chain l.self.pos l.self.kind) l.notes.rows.items (get_or l.nets i 0);
}
