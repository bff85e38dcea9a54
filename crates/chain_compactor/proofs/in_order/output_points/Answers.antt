use Rattle.std.proofs.Common.{sym, arith}
use Rattle.std.proofs.lemmas.List.FromFn.{map-range_with_len_more}
use Rattle.scan_model.specs.declared.parts.Point.TheVariants.{Output}
use Rattle.chain_compactor.proofs.in_order.output_points.Goals as goal

pub loop-k-preserved : goal.loop-k-preserved
loop-k-preserved c = rw (c.in_ok-push.ensures.ok, c.loop-k.invariant) (sym (map-range_with_len_more Output 0 c.loop-k.k c.loop-k.k (omega arith)))
