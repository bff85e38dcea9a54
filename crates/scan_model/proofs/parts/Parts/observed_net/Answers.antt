use Rattle.std.proofs.Common.{subst}
use Rattle.scan_model.specs.declared.parts.Point.{Point}
use Rattle.scan_model.specs.ScanTest.{IsPoint}
use Rattle.scan_model.proofs.Outputs.{output_in_range}
use Rattle.scan_model.proofs.parts.Parts.observed_net.Goals as goal

pub returns-in-Output-clause-in_range : goal.returns-in-Output-clause-in_range
returns-in-Output-clause-in_range c =
    let t = c.args.self.now in
    let inside = subst (λ (p : Point). IsPoint t p) c.in-Output.is c.requires in
    rw (c.as_slice.ensures, c.outputs.ensures.value, c.circuit.ensures.value) (output_in_range t.netlist c.in-Output.place c.circuit.ensures.fits.circuit.netlist inside)
