use Rattle.std.proofs.Common.{◌∙◌}
use Rattle.match_counts.proofs.PlaceSums.{counts_sum}
use Rattle.chain_compactor.proofs.observer.CompactCountsChainObserver.total.Goals as goal

pub returns : goal.returns
returns c = λ t are side. c.sum.ensures side ∙ counts_sum c.args.self.now.rows.now c.args.sum.now t are side
