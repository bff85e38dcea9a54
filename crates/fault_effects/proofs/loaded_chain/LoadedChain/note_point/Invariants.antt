use Rattle.std.proofs.Common.{ℕ, ◌-◌, ◌<◌, ◌≤◌, length, get_or}
use Rattle.scan_model.specs.declared.fault.Fault.TheVariants as fault
use Rattle.fault_effects.specs.Notes.{AreNotes}
use Rattle.fault_effects.specs.Walks.{IsFresh, IsRenoted}
use Rattle.fault_effects.proofs.loaded_chain.LoadedChain.note_point.Given as goal

abbrev pub invariant-loop-place : goal.invariant-loop-place
invariant-loop-place g l = record {
  notes : AreNotes (g.O.ChainObserver.sums l.self.work.now.observer.now) (g.O.Observer.model l.self.work.now.observer.now).places l.notes;
  renoted : IsRenoted (g.O.Observer.model l.self.work.now.observer.now) l.self.work.now.block (fault.Cell l.self.chain l.self.pos l.self.kind) l.initial.notes.rows.items l.notes.rows.items;
  fresh : (i : ℕ) → i < l.nth → IsFresh (g.O.Observer.model l.self.work.now.observer.now) l.self.work.now.block (fault.Cell l.self.chain l.self.pos l.self.kind) l.notes.rows.items (get_or (g.O.ChainObserver.seeing l.self.work.now.observer.now l.point) i 0);
  nth_le : l.nth ≤ length (g.O.ChainObserver.seeing l.self.work.now.observer.now l.point);
}

abbrev pub decreases-loop-place : goal.decreases-loop-place
decreases-loop-place g l = length (g.O.ChainObserver.seeing l.self.work.now.observer.now l.point) - l.nth
