use Rattle.lane_rows.proofs.KeptGates.{all_kept}
use Rattle.lane_rows.proofs.kept_gates.kept_gates.Goals as goal

pub returns : goal.returns
returns c = rw (c.in_ok-gates.ensures, c.as_slice.ensures, c.nets.ensures.value) (all_kept c.args.circuit.now c.args.order.now c.nets.ensures.circuit.netlist c.requires)
