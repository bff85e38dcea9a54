use Rattle.scan_model.specs.Marks.{is_marked}
use Rattle.lane_rows.proofs.Sinks.{leads_up}
use Rattle.lane_rows.proofs.wiring.Wiring.make.Goals as goal

pub returns-clause-wired : goal.returns-clause-wired
returns-clause-wired c =
    let made = rw (c.deref-2.ensures.value, c.deref-3.ensures.value) at c.in_ok-sinks.ensures in
    record {
      live = is_marked c.in_ok-marks.marks.items;
      own = c.in_ok-marks.ensures.marked.own;
      up = leads_up c.args.circuit.now c.nets.ensures.circuit.netlist c.args.observed.now (is_marked c.in_ok-marks.marks.items) c.in_ok-marks.ensures.marked;
      wired = made.wired;
      covers = made.covers;
    }

pub returns-clause-kept : goal.returns-clause-kept
returns-clause-kept c = rw c.in_ok-operands.ensures (rw c.deref-4.ensures.value at c.in_ok-gates.ensures)
