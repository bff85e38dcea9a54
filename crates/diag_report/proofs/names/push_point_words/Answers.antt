use Rattle.std.proofs.Common.{subst}
use Rattle.scan_model.specs.declared.parts.Point.{Point}
use Rattle.scan_model.specs.ScanTest.{IsPoint}
use Rattle.scan_model.proofs.Outputs.{output_in_range}
use Rattle.diag_report.proofs.names.push_point_words.Goals as goal

pub net_name-requires : goal.net_name-requires
net_name-requires c =
    let t = c.args.parts.now in
    let inside = subst (λ (p : Point). IsPoint t p) c.in-Output.is c.requires in
    rw (c.as_slice.ensures, c.outputs.ensures.value, c.circuit.ensures.value) (output_in_range t.netlist c.in-Output.place c.circuit.ensures.fits.circuit.netlist inside)
