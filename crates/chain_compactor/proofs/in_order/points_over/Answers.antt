use Rattle.std.proofs.Common.{◌∙◌, ap, sym, ◌++◌, map, append_assoc}
use Rattle.std.specs.Prelude.{flat_map}
use Rattle.std.specs.List.{range_with_len}
use Rattle.scan_model.specs.declared.parts.Point.TheVariants.{Output}
use Rattle.scan_model.proofs.PointCount.{cycles_more}
use Rattle.compact_points.specs.Channels.{shown_in}
use Rattle.chain_compactor.proofs.in_order.points_over.Goals as goal

pub loop-number-preserved : goal.loop-number-preserved
loop-number-preserved c =
    let outputs = map Output (range_with_len 0 c.args.outputs) in
    let shown = flat_map (λ u. shown_in u 0 c.args.cycles.now) (range_with_len 0 c.loop-number.number) in
    c.in_ok-add_cycle.ensures ∙ ap (λ ps. ps ++ shown_in c.loop-number.number 0 c.args.cycles.now) c.loop-number.invariant
    ∙ append_assoc outputs shown (shown_in c.loop-number.number 0 c.args.cycles.now)
    ∙ ap (λ ps. outputs ++ ps) (sym (cycles_more (λ u. shown_in u 0 c.args.cycles.now) c.loop-number.number))
