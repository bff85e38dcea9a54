use Rattle.scan_model.proofs.BitTables.{bit_cleared}
use Rattle.scan_model.proofs.bits.clear_bit.Goals as goal

pub returns : goal.returns
returns c = bit_cleared c.args.words.now c.args.points c.args.pattern c.args.point c.requires.inside c.requires.point
