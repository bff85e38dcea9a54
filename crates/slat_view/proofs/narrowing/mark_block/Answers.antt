use Rattle.std.proofs.Common.{◌∙◌, List, length, sym, ap, subst}
use Rattle.scan_model.specs.Netlist.{Netlist}
use Rattle.scan_model.specs.Walks.{IsEvaluationOrder}
use Rattle.log_rows.specs.declared.point_row.PointRow.{PointRow}
use Rattle.log_rows.specs.PointRows.{ArePointRows}
use Rattle.slat_view.specs.Ends.{AreFirsts, AreLasts}
use Rattle.slat_view.proofs.NarrowedMarks.{firsts_within, lasts_within, marked_here, none_marked}
use Rattle.slat_view.proofs.narrowing.mark_block.Goals as goal

pub returns-then-is_empty : goal.returns-then-is_empty
returns-then-is_empty c = λ logs stands.
    let t = c.args.parts.now in
    let rows = c.in_ok-rows.rows in
    let are : ArePointRows t logs c.args.at rows = c.in_ok-rows.ensures.rows logs stands in
    let Ordered : Netlist → Type 0 = λ n. IsEvaluationOrder n c.order-order.result.now in
    none_marked t logs c.args.at rows are c.circuit.ensures.fits c.order-order.result.now (subst Ordered c.circuit.ensures.value c.order-order.ensures) c.args.marks.now
    (λ j lj. sym (rw c.as_slice-points.ensures at c.failing_lanes.ensures j lj) ∙ c.is_empty.ensures.empty c.if-is_empty.true j lj)

pub returns : goal.returns
returns c = λ logs stands.
    let t = c.args.parts.now in
    let rows = c.in_ok-rows.rows in
    let are : ArePointRows t logs c.args.at rows = c.in_ok-rows.ensures.rows logs stands in
    let Ordered : Netlist → Type 0 = λ n. IsEvaluationOrder n c.order-order.result.now in
    let firsts = c.in_ok-firsts.firsts in
    let lasts = c.in_ok-lasts.lasts in
    let are_firsts : AreFirsts rows firsts = subst (λ (rs : List PointRow). AreFirsts rs firsts) c.as_slice-points.ensures c.in_ok-firsts.ensures.firsts in
    let are_lasts : AreLasts rows lasts = subst (λ (rs : List PointRow). AreLasts rs lasts) c.as_slice-points.ensures c.in_ok-lasts.ensures.lasts in
    marked_here t logs c.args.at rows are c.circuit.ensures.fits c.order-order.result.now (subst Ordered c.circuit.ensures.value c.order-order.ensures) firsts lasts c.args.marks.now c.mark_both.new.marks are_firsts are_lasts
    (c.in_ok-mark_both.ensures c.args.at c.requires.block
    (firsts_within t logs c.args.at rows are firsts (c.in_ok-firsts.ensures.len ∙ ap length c.as_slice-points.ensures) are_firsts)
    (lasts_within t logs c.args.at rows are lasts (c.in_ok-lasts.ensures.len ∙ ap length c.as_slice-points.ensures) are_lasts))

pub mark_both-requires-clause-ones : goal.mark_both-requires-clause-ones
mark_both-requires-clause-ones c = c.in_ok-firsts.ensures.len ∙ ap length c.as_slice-points.ensures ∙ c.in_ok-rows.ensures.len

pub mark_both-requires-clause-others : goal.mark_both-requires-clause-others
mark_both-requires-clause-others c = c.in_ok-lasts.ensures.len ∙ ap length c.as_slice-points.ensures ∙ c.in_ok-rows.ensures.len
