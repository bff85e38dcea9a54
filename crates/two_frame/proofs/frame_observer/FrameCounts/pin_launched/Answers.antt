use Rattle.std.proofs.Common.{length, ap, ◌∙◌, arith}
use Rattle.scan_model.specs.Netlist.{Netlist, pin_at}
use Rattle.lane_rows.specs.GoodRows.{pattern_of}
use Rattle.packed_sim.specs.declared.good.PackedGood.{PackedGood}
use Rattle.frame_rows.specs.Frames.{net_changes}
use Rattle.two_frame.proofs.frame_observer.FrameCounts.pin_launched.Goals as goal

pub launched-requires-clause-block : goal.launched-requires-clause-block
launched-requires-clause-block c =
    let o = c.args.self.now in
    omega (arith, o.points.block_within, ap (λ (g : PackedGood). length g.rows) o.second, c.requires.frames.first.count, c.requires.frames.second.count)

pub returns : goal.returns
returns c = λ j lt captured.
    let o = c.args.self.now in
    c.launched.ensures j lt captured ∙ ap (net_changes o.points.parts.now c.args.value (pattern_of o.points.block j)) (c.net_of_pin-net.ensures.value ∙ ap (λ (n : Netlist). (pin_at n c.args.pin).net) c.circuit.ensures.value)
