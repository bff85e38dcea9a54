use Rattle.std.proofs.Common.{◌≡◌, ◌&&◌, ap, ◌∙◌, arith}
use Rattle.lane_rows.specs.Lanes.{lane}
use Rattle.log_rows.specs.declared.side.Side.{Side}
use Rattle.log_rows.specs.declared.side.Side.TheVariants.{Failing, Passing}
use Rattle.fault_effects.specs.FaultModel.{Table}
use Rattle.match_counts.specs.declared.block_count.BlockCount.{BlockCount}
use Rattle.match_counts.specs.Flips.{count_on}
use Rattle.match_counts.specs.Tables.{HasTable, sum_of_table}
use Rattle.match_counts.proofs.TableSums.{few_kept}
use Rattle.chain_compactor.proofs.observer.CompactCountsObserver.part.Goals as goal

pub count_in-requires : goal.count_in-requires
count_in-requires c = few_kept c.args.self.now.rows.now c.args.flip.now c.requires.0 (omega (arith, c.args.self.now.rows_len, c.points.ensures.few)) c.requires.1

pub returns : goal.returns
returns c = λ table has side. by_side table has side
  where
    by_side : (table : Table) → HasTable c.args.self.now.rows.now c.args.flip.now table → (side : Side) → count_on side c.count_in.result ≡ sum_of_table c.args.self.now.rows.now side (λ q j. table q j && lane c.args.lanes j)
    by_side table has Failing = ap (λ (x : BlockCount). x.tfsf) c.count_in.ensures.count ∙ has Failing (lane c.args.lanes)
    by_side table has Passing = ap (λ (x : BlockCount). x.tpsf) c.count_in.ensures.count ∙ has Passing (lane c.args.lanes)
