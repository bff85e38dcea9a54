use Rattle.std.proofs.Common.{length, arith}
use Rattle.scan_model.specs.Netlist.{is_branch}
use Rattle.fault_universe.proofs.BranchPlaces.{branches_few}
use Rattle.fault_universe.proofs.branches.branch_pins.Goals as goal

pub returns-clause-few : goal.returns-clause-few
returns-clause-few c =
    let t = c.args.parts.now in
    rw (c.as_slice.ensures, c.branch_pins.ensures.value, c.circuit.ensures.value) (omega (arith, branches_few (is_branch t.netlist) (length t.netlist.pins), c.circuit.ensures.fits.circuit.pins_fit))
