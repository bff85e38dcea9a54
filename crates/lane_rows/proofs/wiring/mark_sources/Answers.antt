use Rattle.std.proofs.Common.{◌-◌, length, arith}
use Rattle.scan_model.specs.Marks.{is_marked}
use Rattle.lane_rows.proofs.Sinks.{marked_back, all_marked}
use Rattle.lane_rows.proofs.wiring.mark_sources.Goals as goal

pub loop-k-preserved : goal.loop-k-preserved
loop-k-preserved c = marked_back c.args.circuit.now c.args.order.now c.requires.order c.loop-k.k (c.loop-k.k - 1) (is_marked c.args.marks.now) (is_marked c.loop-k.marks) (is_marked c.mark_back.new.marks)
    (length c.loop-k.marks) (length c.mark_back.new.marks) (omega arith) c.mark_back.auto.marks c.loop-k.invariant c.mark_back.ensures.reads c.mark_back.ensures.kept c.mark_back.ensures.only

pub returns-clause-closed : goal.returns-clause-closed
returns-clause-closed c = all_marked c.args.circuit.now c.args.order.now c.requires.order c.loop-k.k (is_marked c.args.marks.now) (is_marked c.loop-k.marks) (length c.loop-k.marks) c.loop-k-test.false c.loop-k.invariant
