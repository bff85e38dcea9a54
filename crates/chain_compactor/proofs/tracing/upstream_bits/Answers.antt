use Rattle.std.proofs.Common.{◌≡◌, ℕ, ◌-◌, ◌*◌, ◌<◌, Bool, true, ltb, ◌&&◌, List, length, sym, ap, subst, ◌∙◌, inl, inr, arith}
use Rattle.std.specs.Prelude.{Contains}
use Rattle.std.proofs.lemmas.Bool.{cases_lt, lt-ltb, ltb-true, and_from}
use Rattle.scan_model.specs.declared.values.Tri.{Tri}
use Rattle.scan_model.specs.Coverage.{bit_of}
use Rattle.scan_model.specs.Classes.{class_with, is_failing}
use Rattle.log_join.specs.Joining.{FitsExpected}
use Rattle.lane_rows.specs.Lanes.{lane}
use Rattle.lane_rows.specs.GoodRows.{pattern_of}
use Rattle.log_rows.specs.declared.point_row.PointRow.{PointRow}
use Rattle.log_rows.specs.PlaceRows.{ArePlaceRows}
use Rattle.compact_points.proofs.CompactRows.{rows_fit}
use Rattle.chain_compactor.proofs.tracing.upstream_bits.Goals as goal

pub rows_of_places-requires-clause-expected : goal.rows_of_places-requires-clause-expected
rows_of_places-requires-clause-expected c =
    let joined = c.args.joined.now in
    subst (λ (e : List (List Tri)). FitsExpected e joined) (sym c.requires.expected) (rows_fit c.args.parts.now c.args.compact.now joined c.requires.joined)

pub loop-block-preserved : goal.loop-block-preserved
loop-block-preserved c =
    let t = c.args.parts.now in
    let k = c.args.compact.now in
    let b = c.loop-block.block in
    let inv = c.loop-block.invariant in
    let rows = c.as_slice.result.now in
    let added = c.in_ok-push_block.ensures in
    let same : rows ≡ c.in_ok-rows.rows = c.as_slice.ensures in
    record {
      within = added.within (length t.patterns) (λ j lt is. ltb-true (pattern_of b j) (length t.patterns) (sym (c.patterns-there.ensures j lt) ∙ is)) inv.within;
      listed = λ logs stands w p q w_lt w_in p_lt q_lt sees fails. elim (cases_lt w (512 * b)) [
        | inl before ↦ added.kept (bit_of w p) (inv.listed logs stands w p q before w_in p_lt q_lt sees fails)
        | inr now ↦
            let j = w - 512 * b in
            let lane_in : j < 512 = omega (arith, w_lt, now) in
            let at : pattern_of b j ≡ w = omega (arith, now) in
            let Are : List PointRow → Type 0 = ArePlaceRows logs c.args.expected.now c.args.joined.now.patterns c.args.joined.now.points b in
            let are : Are rows = subst Are (sym same) (c.in_ok-rows.ensures.rows logs stands) in
            let inside : q < length rows = omega (arith, are.len, c.requires.joined.1, q_lt) in
            let there : ltb w c.args.joined.now.patterns ≡ true = lt-ltb w c.args.joined.now.patterns (omega (arith, w_in, c.requires.joined.0)) in
            let class_is : is_failing (class_with c.args.expected.now logs (bit_of w q)) ≡ true = ap (λ (e : List (List Tri)). is_failing (class_with e logs (bit_of w q))) c.requires.expected ∙ fails in
            let On : ℕ → Bool = λ v. ltb v c.args.joined.now.patterns && is_failing (class_with c.args.expected.now logs (bit_of v q)) in
            let lane_fails = (are.each q inside).failing j lane_in ∙ ap On at ∙ and_from (ltb w c.args.joined.now.patterns) (is_failing (class_with c.args.expected.now logs (bit_of w q))) there class_is in
            let lane_there : lane c.patterns-there.result j ≡ true = c.patterns-there.ensures j lane_in ∙ ap (λ (v : ℕ). ltb v (length t.patterns)) at ∙ lt-ltb w (length t.patterns) w_in in
            subst (λ (v : ℕ). Contains c.push_block.new.bits (bit_of v p)) at (added.lanes p p_lt q j lane_in sees lane_fails lane_there)
      ];
    }

pub returns-clause-listed : goal.returns-clause-listed
returns-clause-listed c = λ logs stands w p q w_lt.
    let so_far : w < 512 * c.loop-block.block = omega (arith, w_lt, c.loop-block-test.false, ap length c.blocks-block-end.ensures, c.requires.good.rows.count) in
    c.loop-block.invariant.listed logs stands w p q so_far
