use Rattle.scan_model.specs.declared.fault.Fault.TheVariants as fault
use Rattle.scan_model.proofs.Sites.{site_of}
use Rattle.packed_sim.proofs.FaultBits.{block_inside}
use Rattle.packed_sim.proofs.good.PackedGood.cell_fails.Goals as goal

pub load-requires-clause-block : goal.load-requires-clause-block
load-requires-clause-block g c = block_inside c.args.parts.now c.args.self.now c.args.word c.requires.good c.requires.word

pub load-requires-clause-chain : goal.load-requires-clause-chain
load-requires-clause-chain g c = (site_of c.args.parts.now (fault.Cell c.args.cell.0 c.args.cell.1 c.args.cell.2) c.chains.ensures.fits c.requires.fault).0

pub load-requires-clause-pos : goal.load-requires-clause-pos
load-requires-clause-pos g c = (site_of c.args.parts.now (fault.Cell c.args.cell.0 c.args.cell.1 c.args.cell.2) c.chains.ensures.fits c.requires.fault).1

pub write_words-requires-clause-chain : goal.write_words-requires-clause-chain
write_words-requires-clause-chain g c = (site_of c.args.parts.now (fault.Cell c.args.cell.0 c.args.cell.1 c.args.cell.2) c.chains.ensures.fits c.requires.fault).0
