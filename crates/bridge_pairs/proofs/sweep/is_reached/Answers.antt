use Rattle.std.proofs.Common.{sym, ◌∙◌}
use Rattle.scan_model.specs.Netlist.{reads}
use Rattle.bridge_pairs.specs.PairRows.{has_row}
use Rattle.bridge_pairs.proofs.PairRows.{none_more, any_here}
use Rattle.bridge_pairs.proofs.sweep.is_reached.Goals as goal

pub returns-then-has_row : goal.returns-then-has_row
returns-then-has_row c =
    sym (any_here (has_row c.args.rows.now) (reads c.args.circuit.now c.args.gate) c.operand_pins-pin-items.result.now c.loop-pin.pin-index _ c.operand_pins-pin-items.ensures.reads c.loop-pin-test.true (sym c.has_row.ensures ∙ c.if-has_row.true))

pub loop-pin-preserved : goal.loop-pin-preserved
loop-pin-preserved c =
    none_more (has_row c.args.rows.now) (reads c.args.circuit.now c.args.gate) c.operand_pins-pin-items.result.now c.loop-pin.pin-index _ c.operand_pins-pin-items.ensures.reads c.loop-pin-test.true
    c.loop-pin.invariant (sym c.has_row.ensures ∙ c.if-has_row.false)
