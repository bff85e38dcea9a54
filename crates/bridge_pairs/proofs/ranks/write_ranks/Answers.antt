use Rattle.std.proofs.Common.{◌≡◌, ◌+◌, ◌-◌, arith}
use Rattle.bridge_pairs.specs.Ranks.{RanksFrom}
use Rattle.bridge_pairs.proofs.Ranking.{ranks_more, ranks_none}
use Rattle.bridge_pairs.proofs.ranks.write_ranks.Goals as goal

pub loop-k-init : goal.loop-k-init
loop-k-init c = record { within = omega arith; ranks = ranks_none c.args.order.now c.args.ranks.now c.requires.blank }

pub loop-k-preserved : goal.loop-k-preserved
loop-k-preserved c =
    let k = c.loop-k.k - 1 in
    let more : c.loop-k.k ≡ k + 1 = omega arith in
    let so_far : RanksFrom c.args.order.now c.loop-k.ranks (k + 1) = rw (← more) c.loop-k.invariant.ranks in
    record {
      within = omega arith;
      ranks = ranks_more c.args.order.now c.loop-k.ranks k (omega arith) (omega (arith, c.requires.gates k 0 (omega arith))) so_far;
    }
