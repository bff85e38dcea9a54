use Rattle.back_trace.specs.Keys.{observes, AreKeys}
use Rattle.back_trace.proofs.keys.observed_keys.Given as goal

abbrev pub invariant-loop-k : goal.invariant-loop-k
invariant-loop-k l = AreKeys l.parts (observes l.parts) l.k l.keys.items
