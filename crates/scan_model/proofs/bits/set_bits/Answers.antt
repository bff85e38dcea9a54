use Rattle.scan_model.proofs.BitTables.{bits_set}
use Rattle.scan_model.proofs.bits.set_bits.Goals as goal

pub returns : goal.returns
returns c = bits_set c.args.words.now c.args.points c.args.word c.args.point c.args.mask c.requires.inside c.requires.point
