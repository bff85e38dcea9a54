use Rattle.scan_model.specs.Netlist.{reads}
use Rattle.scan_model.specs.Marks.{is_marked}
use Rattle.lane_rows.proofs.Sinks.{only_read}
use Rattle.lane_rows.proofs.wiring.mark_back.Goals as goal

pub returns-then-marks-gate-clause-only : goal.returns-then-marks-gate-clause-only
returns-then-marks-gate-clause-only c n now before = only_read (is_marked c.args.marks.now n) (is_marked c.mark_reads.new.marks n) n (reads c.args.circuit.now c.args.gate) (c.mark_reads.ensures n) now before
