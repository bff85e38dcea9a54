use Rattle.std.proofs.Common.{ap, ◌∙◌}
use Rattle.scan_model.specs.declared.values.Tri.{Tri}
use Rattle.scan_model.specs.Values.{are_opposite}
use Rattle.scan_model.specs.Faults.{stuck_value}
use Rattle.packed_sim.proofs.Belonging.{good_is}
use Rattle.packed_sim.proofs.good.PackedGood.stuck_mask.Goals as goal

pub returns-clause-lanes : goal.returns-clause-lanes
returns-clause-lanes c j lt = c.opposite_of.ensures j lt ∙ ap (λ (v : Tri). are_opposite v (stuck_value c.args.value)) (c.row_of.ensures j lt)

pub returns-clause-good : goal.returns-clause-good
returns-clause-good c belongs j lt captured = returns-clause-lanes c j lt ∙ ap (λ (v : Tri). are_opposite v (stuck_value c.args.value))
    (good_is c.args.parts.now c.args.self.now belongs c.args.block j c.args.net c.requires.block lt c.requires.net captured)
