use Rattle.fault_effects.specs.Readers.{AreReadsUpTo}
use Rattle.fault_effects.proofs.readers.reads_of.Given as goal

abbrev pub invariant-loop-pin : goal.invariant-loop-pin
invariant-loop-pin l = AreReadsUpTo l.parts.netlist l.pin l.reads.items
