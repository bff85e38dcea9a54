use Rattle.lane_rows.specs.Wiring.{AreLiveReads}
use Rattle.lane_rows.proofs.wiring.live_reads.Given as goal

abbrev pub invariant-loop-pin : goal.invariant-loop-pin
invariant-loop-pin l = AreLiveReads l.circuit l.places l.end l.pin l.reads.nets.items l.reads.places.items
