use Rattle.std.proofs.Common.{arith, []}
use Rattle.made_laws.specs.MadeScan.{chain_line}
use Rattle.made_designs.proofs.MorePieces.{one_more}
use Rattle.made_designs.proofs.scan.made_scan.Goals as goal

pub loop-chain-preserved : goal.loop-chain-preserved
loop-chain-preserved c = one_more (chain_line c.args.blocks) 0 c.loop-chain.chain c.loop-chain.chain [] _ _ (omega arith) c.loop-chain.invariant c.in_ok-push_chain.ensures
