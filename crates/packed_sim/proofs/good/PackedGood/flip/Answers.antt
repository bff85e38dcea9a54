use Rattle.std.proofs.Common.{◌≡◌, None, refl, ap, ◌∙◌}
use Rattle.scan_model.specs.declared.values.Tri.{Tri}
use Rattle.scan_model.specs.Values.{tri_not}
use Rattle.scan_model.specs.NetValue.{values_of, source_of}
use Rattle.scan_model.specs.Force.{force}
use Rattle.lane_rows.specs.Lanes.{lane}
use Rattle.lane_rows.specs.Planes.{held}
use Rattle.lane_rows.specs.GoodRows.{pattern_of}
use Rattle.lane_rows.specs.Stimuli.{stimuli_of}
use Rattle.packed_sim.specs.PackedParts.{good_at, now_at, observed_at}
use Rattle.packed_sim.proofs.Belonging.{own_rows, flip_is}
use Rattle.packed_sim.proofs.good.PackedGood.flip.Goals as goal

pub returns-clause-shows_from : goal.returns-clause-shows_from
returns-clause-shows_from g c σ rows k j in_points lt captured =
    flip_is c.args.parts.now c.circuit.ensures.fits c.args.self.now c.requires.built σ rows c.args.block j c.args.net k c.pick-flipped.result (lane c.args.lanes j)
    (good_at c.args.self.now c.args.block j (observed_at c.args.parts.now k)) (now_at c.args.self.now c.force_net.new.scratch c.args.block j (observed_at c.args.parts.now k))
    c.requires.block lt c.requires.net in_points captured
    (rw (c.pick-flipped.ensures j lt, c.not.ensures j lt, c.row_of-row.ensures j lt) refl) refl (c.force_net.ensures.values σ rows k j in_points lt captured)

pub returns-clause-shows : goal.returns-clause-shows
returns-clause-shows g c belongs = returns-clause-shows_from g c (stimuli_of c.args.parts.now) (own_rows c.args.parts.now c.args.self.now belongs)

pub returns-clause-values : goal.returns-clause-values
returns-clause-values g c belongs k j in_points lt captured on =
    let t = c.args.parts.now in
    let packed = c.args.self.now in
    let b = c.args.block in
    let net = c.args.net in
    let rows = own_rows t packed belongs in
    let good = good_at packed b j net in
    let row_is : held c.pick-flipped.result j ≡ tri_not good = c.pick-flipped.ensures j lt ∙ rw (on, c.not.ensures j lt, c.row_of-row.ensures j lt) refl in
    c.force_net.ensures.values (stimuli_of t) rows k j in_points lt captured
    ∙ ap (λ (v : Tri). values_of t.netlist (source_of t None (pattern_of b j)) (force net v) (observed_at t k)) (row_is ∙ ap tri_not (rows.value b j net c.requires.block lt c.requires.net captured))
