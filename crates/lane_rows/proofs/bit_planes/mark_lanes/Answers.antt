use Rattle.std.proofs.Common.{◌≡◌, ℕ, ◌∙◌, List, get_or, ap, sym, inl, inr, arith}
use Rattle.std.proofs.lemmas.Bool.{cases_eq, ne_eqb}
use Rattle.std.proofs.lemmas.List.{get_or_default}
use Rattle.scan_model.specs.declared.values.Tri.{Tri}
use Rattle.scan_model.specs.ChainShift.{value_at}
use Rattle.scan_model.specs.ScanTest.{no_pattern}
use Rattle.lane_rows.specs.BitPlanes.{has_bit, is_in}
use Rattle.lane_rows.specs.DrivenParts.{part_values}
use Rattle.lane_rows.proofs.bit_planes.mark_lanes.Goals as goal

pub mark_lane-requires-clause-blank : goal.mark_lane-requires-clause-blank
mark_lane-requires-clause-blank c = λ i. c.loop-at.invariant.blank i c.loop-at.at (omega arith) (omega (arith, c.requires.few, c.loop-at-test.true))

pub loop-at-preserved : goal.loop-at-preserved
loop-at-preserved c =
    let patterns = c.args.patterns.now in
    let part = c.args.part in
    let plane = c.args.plane in
    let new = c.mark_lane.new.bytes in
    let at = c.loop-at.at in
    let pattern : c.index-patterns-at.result ≡ get_or patterns at no_pattern = c.index-patterns-at.is ∙ get_or_default patterns at c.index-patterns-at.result no_pattern c.loop-at-test.true in
    let values : c.values_of.result.now ≡ part_values part (get_or patterns at no_pattern) = c.values_of.ensures ∙ ap (part_values part) pattern in
    record {
      done = λ i j lt. elim (cases_eq j at) [
        | inl same ↦
            ap (has_bit (get_or new i 0)) same ∙ c.mark_lane.ensures.there i ∙ ap (λ (vs : List Tri). is_in plane (value_at vs i)) values
            ∙ ap (λ (k : ℕ). is_in plane (value_at (part_values part (get_or patterns k no_pattern)) i)) (sym same)
        | inr other ↦ c.mark_lane.ensures.elsewhere i j (ne_eqb j at other) ∙ c.loop-at.invariant.done i j (omega (arith, other))
      ];
      blank = λ i j le lt. c.mark_lane.ensures.elsewhere i j (ne_eqb j at (λ e. omega arith)) ∙ c.loop-at.invariant.blank i j (omega arith) lt;
    }
