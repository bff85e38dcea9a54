use Rattle.std.proofs.Common.{◌≡◌, ℕ, ◌-◌, ◌<◌, ◌≤◌, true, length}
use Rattle.scan_model.specs.declared.fault.Fault.TheVariants as fault
use Rattle.place_sets.specs.Places.{has_place}
use Rattle.fault_effects.specs.Notes.{AreNotes}
use Rattle.fault_effects.specs.Walks.{IsNetDone, IsRenoted}
use Rattle.fault_effects.proofs.loaded_chain.LoadedChain.note_moved.Given as goal

abbrev pub invariant-loop-net : goal.invariant-loop-net
invariant-loop-net g l = record {
  notes : AreNotes (g.O.ChainObserver.sums l.self.work.now.observer.now) (g.O.Observer.model l.self.work.now.observer.now).places l.notes;
  renoted : IsRenoted (g.O.Observer.model l.self.work.now.observer.now) l.self.work.now.block (fault.Cell l.self.chain l.self.pos l.self.kind) l.initial.notes.rows.items l.notes.rows.items;
  done : (n : ℕ) → n < l.from → has_place l.self.scratch.now.moved n ≡ true → IsNetDone l.self.work.now.parts.now (g.O.Observer.model l.self.work.now.observer.now) l.self.work.now.block (fault.Cell l.self.chain l.self.pos l.self.kind) l.self.chain l.notes.rows.items n;
  from_le : l.from ≤ length l.self.work.now.parts.now.netlist.nets;
}

abbrev pub decreases-loop-net : goal.decreases-loop-net
decreases-loop-net g l = length l.self.work.now.parts.now.netlist.nets - l.from
