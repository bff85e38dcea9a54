use Rattle.std.proofs.Common.{length, sym, arith}
use Rattle.fault_universe.proofs.StemPlaces.{length-stems_of}
use Rattle.fault_universe.proofs.stems.stem_count.Goals as goal

pub returns-clause-count : goal.returns-clause-count
returns-clause-count c = rw (c.len.ensures, c.nets.ensures.value, c.circuit.ensures.value) (sym (length-stems_of 0 (length c.args.parts.now.netlist.nets)))

pub returns-clause-few : goal.returns-clause-few
returns-clause-few c = omega (arith, length-stems_of 0 (length c.args.parts.now.netlist.nets), c.circuit.ensures.fits.circuit.nets_fit)
