use Rattle.std.proofs.Common.{◌||◌, take, ap, sym, ◌∙◌}
use Rattle.std.specs.List.{list_any}
use Rattle.scan_model.specs.Netlist.{reads}
use Rattle.bit_rows.specs.Lanes.{lane}
use Rattle.bridge_pairs.specs.PairRows.{has_pair}
use Rattle.bridge_pairs.proofs.PairRows.{any_more}
use Rattle.bridge_pairs.proofs.sweep.read_lanes.Goals as goal

pub loop-pin-preserved : goal.loop-pin-preserved
loop-pin-preserved c = λ j lt.
    let read = reads c.args.circuit.now c.args.gate in
    let has = has_pair c.args.rows.now j in
    c.or-lanes.ensures j lt
    ∙ ap (λ b. b || lane c.lanes.result j) (c.loop-pin.invariant j lt)
    ∙ ap (λ b. list_any has (take c.loop-pin.pin-index read) || b) (c.lanes.ensures j lt)
    ∙ sym (any_more has read c.operand_pins-pin-items.result.now c.loop-pin.pin-index _ c.operand_pins-pin-items.ensures.reads c.loop-pin-test.true)
