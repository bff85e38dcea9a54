use Rattle.std.proofs.Common.{◌∙◌, sym}
use Rattle.std.specs.Prelude.{flat_map}
use Rattle.scan_model.specs.ChainShift.{value_at}
use Rattle.scan_model.specs.ScanTest.{cells_of}
use Rattle.scan_model.specs.NetValue.{assigned}
use Rattle.scan_model.proofs.Assigned.{assigned_agree, assigned-append}
use Rattle.scan_model.proofs.Inputs.{inputs_in_range}
use Rattle.good_sim.proofs.source.write_sources.Goals as goal

pub assign-requires-clause-in_range : goal.assign-requires-clause-in_range
assign-requires-clause-in_range c =
    rw (c.as_slice-2.ensures, c.inputs-names.ensures.value, c.circuit.ensures.value, c.assign_rows.auto.source, c.requires.len)
    (inputs_in_range c.args.parts.now.netlist c.circuit.ensures.fits.circuit.netlist)

pub returns : goal.returns
returns c = λ n.
    let names = c.args.parts.now.netlist.inputs in
    let cells = cells_of c.args.parts.now.chains in
    let rows = flat_map (λ row. row) c.args.loads.now in
    let first = rw (c.as_slice-2.ensures, c.inputs-names.ensures.value, c.circuit.ensures.value) at c.assign.ensures n in
    let second = rw (c.as_slice.ensures, c.chains.ensures.value) at c.assign_rows.ensures n in
    first ∙ assigned_agree names c.args.inputs.now (value_at c.assign_rows.new.source) (assigned cells rows (value_at c.args.source.now)) n second
    ∙ sym (assigned-append names cells c.args.inputs.now rows (value_at c.args.source.now) n (sym c.requires.inputs))
