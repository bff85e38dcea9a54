use Rattle.std.proofs.Common.{ap, ◌∙◌}
use Rattle.scan_model.specs.declared.values.Tri.{Tri}
use Rattle.scan_model.specs.Faults.{bridged}
use Rattle.scan_model.specs.NetValue.{good_value}
use Rattle.lane_rows.specs.GoodRows.{pattern_of}
use Rattle.lane_rows.specs.Planes.{held}
use Rattle.packed_sim.proofs.Belonging.{good_is}
use Rattle.packed_sim.proofs.good.PackedGood.bridged_row.Goals as goal

pub returns : goal.returns
returns c j lt captured =
    let t = c.args.parts.now in
    let w = pattern_of c.args.block j in
    c.value.ensures j lt
    ∙ ap (λ (v : Tri). bridged c.args.kind v (held c.row_of-second.result j)) (c.row_of-first.ensures j lt ∙ good_is t c.args.self.now c.requires.good c.args.block j c.args.a c.requires.block lt c.requires.a captured)
    ∙ ap (bridged c.args.kind (good_value t w c.args.a)) (c.row_of-second.ensures j lt ∙ good_is t c.args.self.now c.requires.good c.args.block j c.args.b c.requires.block lt c.requires.b captured)
