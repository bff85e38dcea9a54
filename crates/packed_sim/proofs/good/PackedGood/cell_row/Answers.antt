use Rattle.std.proofs.Common.{◌≡◌, ◌∙◌, refl}
use Rattle.scan_model.specs.declared.parts.Point.TheVariants.{Cell}
use Rattle.scan_model.specs.Suspect.{observed_net}
use Rattle.packed_sim.proofs.good.PackedGood.cell_row.Goals as goal

pub returns : goal.returns
returns c j lt =
    let sees : c.data_net-data.result ≡ observed_net c.args.parts.now (Cell c.args.chain c.args.at) = rw (c.circuit.ensures.value, c.cell_at-net.ensures.value) at c.data_net-data.ensures.value in
    c.pick.ensures j lt ∙ rw (c.capture-capture.ensures, c.row_now-captured.ensures j lt, c.row_now-loaded.ensures j lt, sees, c.cell_at-net.ensures.value) refl
