use Rattle.std.proofs.Common.{refl}
use Rattle.made_laws.specs.MadeScan.{cell_words}
use Rattle.made_designs.proofs.MorePieces.{one_more}
use Rattle.made_designs.proofs.scan.push_blocks.Goals as goal

pub loop-place-preserved : goal.loop-place-preserved
loop-place-preserved c = one_more cell_words c.args.first c.loop-place.place _ _ _ _ refl c.loop-place.invariant c.in_ok-push_cells.ensures
