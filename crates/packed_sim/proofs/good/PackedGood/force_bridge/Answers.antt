use Rattle.std.proofs.Common.{None, ap, sym, ◌∙◌, arith}
use Rattle.scan_model.specs.NetValue.{Forced, values_of, source_of}
use Rattle.lane_rows.specs.GoodRows.{pattern_of}
use Rattle.lane_rows.specs.Planes.{held}
use Rattle.lane_rows.specs.Stimuli.{stimuli_of}
use Rattle.packed_sim.specs.PackedParts.{observed_at}
use Rattle.packed_sim.proofs.Belonging.{own_rows}
use Rattle.packed_sim.proofs.Taken.{both_forced, second_forced, second_within}
use Rattle.packed_sim.proofs.good.PackedGood.force_bridge.Goals as goal

pub returns-then-takes-clause-values : goal.returns-then-takes-clause-values
returns-then-takes-clause-values g c k j lt j_lt captured =
    let t = c.args.parts.now in
    c.force_nets.ensures.values k j lt j_lt captured
    ∙ ap (λ (F : Forced). values_of t.netlist (source_of t None (pattern_of c.args.block j)) F (observed_at t k))
    (both_forced c.args.bridge.2 c.args.bridge.0 c.args.bridge.1 (held c.args.row j) (sym c.takes.ensures ∙ c.if-takes.true))

pub returns-else-takes-clause-values : goal.returns-else-takes-clause-values
returns-else-takes-clause-values g c k j lt j_lt captured =
    let t = c.args.parts.now in
    c.force_net.ensures.values (stimuli_of t) (own_rows t c.args.self.now c.requires.good) k j lt j_lt captured
    ∙ ap (λ (F : Forced). values_of t.netlist (source_of t None (pattern_of c.args.block j)) F (observed_at t k))
    (second_forced c.args.bridge.2 c.args.bridge.0 c.args.bridge.1 (held c.args.row j) (sym c.takes.ensures ∙ c.if-takes.false))

pub returns-else-takes-clause-steps : goal.returns-else-takes-clause-steps
returns-else-takes-clause-steps g c = omega (arith, c.force_net.ensures.steps, second_within c.args.parts.now c.args.bridge.0 c.args.bridge.1)
