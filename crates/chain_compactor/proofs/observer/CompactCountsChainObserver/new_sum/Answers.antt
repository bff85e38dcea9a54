use Rattle.std.proofs.Common.{◌≡◌, List, length}
use Rattle.std.specs.Prelude.{replicate}
use Rattle.std.proofs.lemmas.Result.{IfOk-weaker}
use Rattle.fault_effects.specs.FaultModel.{no_places}
use Rattle.match_counts.specs.declared.block_count.BlockCount.{BlockCount}
use Rattle.match_counts.specs.PlaceCounts.{no_count, ArePlaceCounts}
use Rattle.match_counts.proofs.PlaceSums.{counts_none}
use Rattle.chain_compactor.proofs.observer.CompactCountsChainObserver.new_sum.Goals as goal

pub returns : goal.returns
returns c =
    let rows = c.args.self.now.rows.now in
    IfOk-weaker c.make.result (λ (counts : List BlockCount). counts ≡ replicate (length rows) no_count) (λ (counts : List BlockCount). ArePlaceCounts rows counts no_places) (counts_none rows) c.make.ensures
