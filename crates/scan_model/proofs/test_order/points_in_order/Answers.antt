use Rattle.std.proofs.Common.{◌∙◌, ap, sym, ◌++◌, map, append_assoc}
use Rattle.std.specs.Prelude.{flat_map}
use Rattle.std.specs.List.{range_with_len}
use Rattle.scan_model.specs.declared.parts.Point.TheVariants.{Output}
use Rattle.scan_model.specs.ScanTest.{cycle}
use Rattle.scan_model.proofs.PointCount.{cycles_more}
use Rattle.scan_model.proofs.test_order.points_in_order.Goals as goal

pub loop-number-preserved : goal.loop-number-preserved
loop-number-preserved c =
    let outputs = map Output (range_with_len 0 c.args.outputs) in
    let shown = flat_map (λ n. cycle n 0 c.args.chains.now) (range_with_len 0 c.loop-number.number) in
    c.in_ok-add_cycle.ensures ∙ ap (λ ps. ps ++ cycle c.loop-number.number 0 c.args.chains.now) c.loop-number.invariant
    ∙ append_assoc outputs shown (cycle c.loop-number.number 0 c.args.chains.now)
    ∙ ap (λ ps. outputs ++ ps) (sym (cycles_more (λ n. cycle n 0 c.args.chains.now) c.loop-number.number))
