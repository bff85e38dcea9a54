use Rattle.std.proofs.Common.{not, refl}
use Rattle.explained_lanes.specs.Fails.{explains_in}
use Rattle.explained_lanes.proofs.ToldLanes.{tells_covers}
use Rattle.explained_lanes.proofs.explain.is_explained.Goals as goal

pub returns : goal.returns
returns c = λ b good within.
    tells_covers c.explaining_lanes.result c.is_empty.result (not c.is_empty.result) (explains_in c.args.parts.now c.args.fault b c.args.trace.now.fails) (c.explaining_lanes.ensures b good within) c.is_empty.ensures.empty c.is_empty.ensures.some refl
