use Rattle.std.proofs.Common.{◌≡◌, ℕ, Bool, true, false, ◌&&◌, eqb, sym, ap, ◌∙◌}
use Rattle.std.proofs.lemmas.Bool.{eq-eqb, ne_eqb}
use Rattle.scan_model.specs.declared.values.Tri.{Tri}
use Rattle.scan_model.specs.Values.{are_opposite}
use Rattle.scan_model.specs.Faults.{bridged, takes}
use Rattle.scan_model.specs.NetValue.{good_value}
use Rattle.lane_rows.specs.GoodRows.{pattern_of}
use Rattle.lane_rows.specs.Planes.{held}
use Rattle.packed_sim.proofs.Belonging.{good_is}
use Rattle.packed_sim.proofs.Bridges.{second_takes}
use Rattle.packed_sim.proofs.good.PackedGood.bridge_mask.Goals as goal

pub returns-then-net-pair : goal.returns-then-net-pair
returns-then-net-pair c j lt captured =
    let t = c.args.parts.now in
    let kind = c.args.kind in
    let good = good_value t (pattern_of c.args.block j) in
    let value = bridged kind (good c.args.pair.0) (good c.args.pair.1) in
    let first_is : held c.lent_row-first.result.now j ≡ good c.args.pair.0 = c.lent_row-first.ensures j lt ∙ good_is t c.args.self.now c.requires.good c.args.block j c.args.pair.0 c.requires.block lt c.requires.a captured in
    let second_is : held c.lent_row-second.result.now j ≡ good c.args.pair.1 = c.lent_row-second.ensures j lt ∙ good_is t c.args.self.now c.requires.good c.args.block j c.args.pair.1 c.requires.block lt c.requires.b captured in
    let taken : takes kind (eqb c.args.net c.args.pair.0) (eqb c.args.net c.args.pair.1) ≡ true = ap (takes kind (eqb c.args.net c.args.pair.0)) (eq-eqb c.args.net c.args.pair.1 c.if-net-pair.true) ∙ second_takes kind (eqb c.args.net c.args.pair.0) in
    c.second_flips.ensures j lt
    ∙ ap (λ (v : Tri). are_opposite v (bridged kind (held c.lent_row-first.result.now j) v)) second_is
    ∙ ap (λ (v : Tri). are_opposite (good c.args.pair.1) (bridged kind v (good c.args.pair.1))) first_is
    ∙ ap (λ (n : ℕ). are_opposite (good n) value) (sym c.if-net-pair.true)
    ∙ ap (λ (b : Bool). b && are_opposite (good c.args.net) value) (sym taken)

pub returns-then-net-pair-2 : goal.returns-then-net-pair-2
returns-then-net-pair-2 c j lt captured =
    let t = c.args.parts.now in
    let kind = c.args.kind in
    let good = good_value t (pattern_of c.args.block j) in
    let value = bridged kind (good c.args.pair.0) (good c.args.pair.1) in
    let first_is : held c.lent_row-first.result.now j ≡ good c.args.pair.0 = c.lent_row-first.ensures j lt ∙ good_is t c.args.self.now c.requires.good c.args.block j c.args.pair.0 c.requires.block lt c.requires.a captured in
    let second_is : held c.lent_row-second.result.now j ≡ good c.args.pair.1 = c.lent_row-second.ensures j lt ∙ good_is t c.args.self.now c.requires.good c.args.block j c.args.pair.1 c.requires.block lt c.requires.b captured in
    let taken : takes kind (eqb c.args.net c.args.pair.0) (eqb c.args.net c.args.pair.1) ≡ takes kind true false =
    ap (λ (x : Bool). takes kind x (eqb c.args.net c.args.pair.1)) (eq-eqb c.args.net c.args.pair.0 c.if-net-pair-2.true) ∙ ap (takes kind true) (ne_eqb c.args.net c.args.pair.1 c.if-net-pair.false) in
    c.first_flips.ensures j lt
    ∙ ap (λ (v : Tri). takes kind true false && are_opposite v (bridged kind v (held c.lent_row-second.result.now j))) first_is
    ∙ ap (λ (v : Tri). takes kind true false && are_opposite (good c.args.pair.0) (bridged kind (good c.args.pair.0) v)) second_is
    ∙ ap (λ (n : ℕ). takes kind true false && are_opposite (good n) value) (sym c.if-net-pair-2.true)
    ∙ ap (λ (b : Bool). b && are_opposite (good c.args.net) value) (sym taken)
