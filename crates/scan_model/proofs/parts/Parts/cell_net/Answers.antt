use Rattle.std.proofs.Common.{◌<◌, ℕ, length, sym, subst}
use Rattle.scan_model.specs.Netlist.{driver_of}
use Rattle.scan_model.specs.ScanTest.{IsFlop}
use Rattle.scan_model.proofs.Cells.{cell_is_flop_of}
use Rattle.scan_model.proofs.parts.Parts.cell_net.Goals as goal

pub returns-clause-in_range : goal.returns-clause-in_range
returns-clause-in_range c = subst (λ (n : ℕ). n < length c.args.self.now.netlist.nets) (sym c.listed_net-net.ensures) (cell_is_flop_of c.args.self.now c.chains.ensures.fits c.args.chain c.args.pos c.requires.0 c.requires.1).0

pub returns-clause-flop : goal.returns-clause-flop
returns-clause-flop c = subst (λ (n : ℕ). IsFlop (driver_of c.args.self.now.netlist n)) (sym c.listed_net-net.ensures) (cell_is_flop_of c.args.self.now c.chains.ensures.fits c.args.chain c.args.pos c.requires.0 c.requires.1).1
