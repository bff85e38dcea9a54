use Rattle.std.proofs.Common.{◌≡◌, ◌∙◌, ℕ, get_or, ap, arith}
use Rattle.std.proofs.lemmas.List.{get_or_default}
use Rattle.scan_model.specs.Suspect.{observed_net}
use Rattle.lane_rows.specs.Planes.{Planes, held}
use Rattle.lane_rows.specs.Sources.{no_planes}
use Rattle.expected_values.proofs.BlockShows.{block_shows}
use Rattle.expected_values.proofs.point_rows.point_in_block.Goals as goal

pub returns : goal.returns
returns c = λ b j rows lane_in there.
    let t = c.args.parts.now in
    let values = c.args.block.now.values in
    let net = c.observed_net-net.result in
    let captured = c.index-as_slice-net.result in
    let read : captured ≡ get_or values net no_planes =
    rw c.as_slice.ensures at c.index-as_slice-net.is ∙ get_or_default values net captured no_planes (omega (arith, c.observed_net-net.ensures.in_range, c.requires.values)) in
    let of_net : captured ≡ get_or values (observed_net t c.args.point) no_planes = read ∙ ap (λ (n : ℕ). get_or values n no_planes) c.observed_net-net.ensures.value in
    c.pick.ensures j lane_in
    ∙ block_shows t b j c.args.block.now c.args.point (held captured j) (held c.shifted.result j) c.observed_net-net.ensures.fits rows c.requires.point lane_in there
    (ap (λ (p : Planes). held p j) of_net)
    (c.shifted.ensures b j rows lane_in there)
