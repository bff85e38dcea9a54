use Rattle.scan_model.specs.Suspect.{is_cell}
use Rattle.back_trace.specs.Keys.{AreKeys}
use Rattle.back_trace.proofs.keys.cell_keys.Given as goal

abbrev pub invariant-loop-k : goal.invariant-loop-k
invariant-loop-k l = AreKeys l.parts (is_cell l.parts) l.k l.keys.items
