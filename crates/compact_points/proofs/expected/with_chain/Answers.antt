use Rattle.std.proofs.Common.{◌≡◌, ◌-◌, true, false, ltb, None, ap, sym, ◌∙◌, arith, append-nil}
use Rattle.std.proofs.lemmas.Bool.Decides.{nat_tests}
use Rattle.scan_model.specs.declared.values.Tri.{Tri}
use Rattle.scan_model.specs.declared.parts.Point.TheVariants.{Cell}
use Rattle.scan_model.specs.Values.{tri_xor}
use Rattle.scan_model.specs.Response.{observed}
use Rattle.scan_model.proofs.Folds.{xor_of-push}
use Rattle.lane_rows.specs.Planes.{held}
use Rattle.lane_rows.specs.GoodRows.{pattern_of}
use Rattle.compact_points.specs.Channels.{chain_length as model_length}
use Rattle.compact_points.proofs.expected.with_chain.Goals as goal

pub point_in_block-shown-requires-clause-point : goal.point_in_block-shown-requires-clause-point
point_in_block-shown-requires-clause-point c = (c.requires.chain, omega (arith, c.chain_length-length.ensures.value))

pub returns-then-cycle-length : goal.returns-then-cycle-length
returns-then-cycle-length c = λ b j rows lane_in there vs so_far.
    let shows_none : ltb c.args.cycle (model_length c.args.parts.now c.args.chain) ≡ false = grind (arith, nat_tests, c.chain_length-length.ensures.value) in
    rw (shows_none, append-nil) so_far

pub returns : goal.returns
returns c = λ b j rows lane_in there vs so_far.
    let t = c.args.parts.now in
    let see = observed t None (pattern_of b j) in
    let length = c.chain_length-length.result in
    let shows : ltb c.args.cycle (model_length t c.args.chain) ≡ true = grind (arith, nat_tests, c.chain_length-length.ensures.value) in
    rw (shows, ← c.chain_length-length.ensures.value)
    (c.xor.ensures j lane_in
    ∙ ap (tri_xor (held c.args.row j)) (c.point_in_block-shown.ensures b j rows lane_in there)
    ∙ ap (λ (v : Tri). tri_xor v (see (Cell c.args.chain (length - 1 - c.args.cycle)))) so_far
    ∙ sym (xor_of-push vs (see (Cell c.args.chain (length - 1 - c.args.cycle)))))
