use Rattle.back_trace.proofs.ChainTraces.{IsLastOf}
use Rattle.back_trace.proofs.chains.last_reached.Given as goal

abbrev pub invariant-loop-i : goal.invariant-loop-i
invariant-loop-i l = IsLastOf l.reach l.cells l.i l.last
