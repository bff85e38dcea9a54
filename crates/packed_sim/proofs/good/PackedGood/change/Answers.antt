use Rattle.std.proofs.Common.{Option, None, unwrap_or, get_or, ap, ◌∙◌}
use Rattle.scan_model.specs.declared.values.Tri.{Tri}
use Rattle.scan_model.specs.Values.{tri_xor}
use Rattle.lane_rows.specs.Planes.{Planes, held}
use Rattle.packed_sim.specs.Rows.{no_row}
use Rattle.packed_sim.specs.PackedParts.{block_at, good_at}
use Rattle.packed_sim.proofs.good.PackedGood.change.Goals as goal

pub returns-in-Some : goal.returns-in-Some
returns-in-Some c = λ j lt.
    let g = c.args.self.now in
    let b = c.args.block in
    let n = c.args.net in
    c.xor.ensures j lt
    ∙ ap (λ (v : Tri). tri_xor v (held c.in-Some.now j)) (c.row_of-good.ensures j lt)
    ∙ ap (λ (o : Option Planes). tri_xor (good_at g b j n) (held (unwrap_or o (get_or (block_at g b).values n no_row)) j)) c.in-Some.ensures
