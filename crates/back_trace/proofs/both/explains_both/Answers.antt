use Rattle.std.proofs.Common.{not, ap, ◌∙◌, inl, inr}
use Rattle.std.proofs.lemmas.Bool.{cases_Bool, both_ways, and_parts, and_from}
use Rattle.lane_rows.specs.Lanes.{lane}
use Rattle.explained_lanes.specs.Fails.{explains_in}
use Rattle.back_trace.proofs.both.explains_both.Goals as goal

pub returns-then-is_empty : goal.returns-then-is_empty
returns-then-is_empty c = λ b good ones others j lj e.
    let t = c.args.parts.now in
    let lanes = c.explaining_lanes-lanes.result in
    let parts = and_parts (explains_in t c.args.fault b c.args.ones.now.fails j) (explains_in t c.args.fault b c.args.others.now.fails j) e in
    absurd (both_ways (lane lanes j) (c.is_empty.ensures.empty c.if-is_empty.true j lj) ((c.explaining_lanes-lanes.ensures b good ones).all j lj parts.0))

pub returns : goal.returns
returns c = λ b good ones others j lj e.
    let t = c.args.parts.now in
    let lanes = c.explaining_lanes-lanes.result in
    let more = c.explaining_lanes-more.result in
    let parts = and_parts (explains_in t c.args.fault b c.args.ones.now.fails j) (explains_in t c.args.fault b c.args.others.now.fails j) e in
    let there = c.and.ensures j lj ∙ and_from (lane lanes j) (lane more j) ((c.explaining_lanes-lanes.ensures b good ones).all j lj parts.0) ((c.explaining_lanes-more.ensures b good others).all j lj parts.1) in
    elim (cases_Bool c.is_empty-2.result) [
      | inl empty ↦ absurd (both_ways (lane c.and.result j) (c.is_empty-2.ensures.empty empty j lj) there)
      | inr some ↦ ap not some
    ]
