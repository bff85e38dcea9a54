use Rattle.std.proofs.Common.{map, ◌∙◌}
use Rattle.scan_model.specs.Values.{xor_of}
use Rattle.lane_rows.specs.Planes.{held}
use Rattle.compact_points.specs.Compaction.{members}
use Rattle.chain_compactor.proofs.XorChanges.{opposite_where_known}
use Rattle.chain_compactor.proofs.changes.differing.Goals as goal

pub returns : goal.returns
returns g c = λ j lt tells is.
    let behind = members c.args.parts.now c.args.compact.now c.args.point in
    c.opposite.ensures j lt
    ∙ opposite_where_known (map (g.C.Changes.good c.args.changes.now j) behind) (held c.args.expected j) (held c.shown_changed-shown.result j) (xor_of (map (g.C.Changes.shown c.args.changes.now j) behind)) is
    (c.shown_changed-shown.ensures j lt tells is)
