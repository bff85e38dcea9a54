use Rattle.std.proofs.Common.{◌≡◌, ap, ◌∙◌}
use Rattle.scan_model.specs.declared.parts.Point.TheVariants.{Cell}
use Rattle.scan_model.specs.Suspect.{observed_net}
use Rattle.lane_rows.specs.Lanes.{lane}
use Rattle.lane_rows.specs.Planes.{held}
use Rattle.packed_sim.specs.PackedParts.{good_at}
use Rattle.packed_sim.proofs.ChainBits.{expected_is}
use Rattle.packed_sim.proofs.good.PackedGood.expected_row.Goals as goal

pub returns : goal.returns
returns c j lt w_lt =
    let t = c.args.parts.now in
    let g = c.args.self.now in
    let sees : c.data_net-data.result ≡ observed_net t (Cell c.args.chain c.args.at) = rw (c.circuit.ensures.value, c.cell_at-net.ensures.value) at c.data_net-data.ensures.value in
    expected_is t c.chains.ensures.fits g c.requires.good c.args.block c.requires.block c.args.chain c.requires.chain c.args.at j (lane c.capture-capture.result j) (held c.pick.result j) (held c.row_of-captured.result j) (held c.row_of-loaded.result j) c.requires.at lt w_lt
    (rw c.capture-capture.ensures ((c.requires.good.rows.each c.args.block c.requires.block).capture j lt))
    (c.row_of-captured.ensures j lt ∙ ap (good_at g c.args.block j) sees)
    (c.row_of-loaded.ensures j lt ∙ ap (good_at g c.args.block j) c.cell_at-net.ensures.value)
    (c.pick.ensures j lt)
