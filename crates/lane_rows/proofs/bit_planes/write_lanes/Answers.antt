use Rattle.std.proofs.Common.{◌≡◌, ℕ, ◌<◌, ◌∙◌, length, get_or, set, ap, sym, inl, inr, arith}
use Rattle.std.proofs.lemmas.Bool.{cases_eq}
use Rattle.std.proofs.lemmas.List.{get_or-set_same, get_or-set_other, get_or_default}
use Rattle.scan_model.specs.declared.parts.Pattern.{Pattern}
use Rattle.scan_model.specs.ScanTest.{no_pattern}
use Rattle.lane_rows.specs.BitPlanes.{has_bit, is_in}
use Rattle.lane_rows.specs.DrivenParts.{part_values, driven_value}
use Rattle.lane_rows.proofs.EightLanes.{lane_of, eight_are}
use Rattle.lane_rows.proofs.bit_planes.write_lanes.Goals as goal

pub loop-i-preserved : goal.loop-i-preserved
loop-i-preserved c =
    let patterns = c.args.patterns.now in
    let part = c.args.part in
    let plane = c.args.plane in
    let bytes = c.loop-i.bytes in
    let i = c.loop-i.i in
    let byte = c.byte_of.result in
    let inside : i < length bytes = omega (arith, c.loop-i-test.true, c.loop-i.auto.bytes, c.loop-i.auto.i-end) in
    let stands : (m : ℕ) (p : Pattern) → m < 8 → p ≡ get_or patterns m p → p ≡ get_or patterns m no_pattern = λ m p lt is. is ∙ get_or_default patterns m p no_pattern (omega (arith, c.requires.eight)) in
    let long : (m : ℕ) → m < 8 → i < length (part_values part (get_or patterns m no_pattern)) = λ m lt. omega (arith, c.requires.full m no_pattern (omega (arith, c.requires.eight)), inside, c.loop-i.auto.bytes) in
    let values = λ (m : ℕ) (p : Pattern) (lt : m < 8) (is : p ≡ get_or patterns m p). ap (part_values part) (stands m p lt is) in
    let lanes = eight_are (λ j. is_in plane (driven_value part patterns j i))
    c.is_same.result c.is_same-in-loop-i.result c.is_same-in-loop-i-2.result c.is_same-in-loop-i-3.result
    c.is_same-in-loop-i-4.result c.is_same-in-loop-i-5.result c.is_same-in-loop-i-6.result c.is_same-in-loop-i-7.result
    (lane_of part patterns plane i 0 c.values_of-a.result.now c.value_of-wanted.result c.is_same.result (c.values_of-a.ensures ∙ values 0 c.index-patterns-0.result (omega arith) c.index-patterns-0.is) (long 0 (omega arith)) c.value_of-wanted.ensures c.is_same.ensures)
    (lane_of part patterns plane i 1 c.values_of-b.result.now c.value_of-wanted.result c.is_same-in-loop-i.result (c.values_of-b.ensures ∙ values 1 c.index-patterns-1.result (omega arith) c.index-patterns-1.is) (long 1 (omega arith)) c.value_of-wanted.ensures c.is_same-in-loop-i.ensures)
    (lane_of part patterns plane i 2 c.values_of-c.result.now c.value_of-wanted.result c.is_same-in-loop-i-2.result (c.values_of-c.ensures ∙ values 2 c.index-patterns-2.result (omega arith) c.index-patterns-2.is) (long 2 (omega arith)) c.value_of-wanted.ensures c.is_same-in-loop-i-2.ensures)
    (lane_of part patterns plane i 3 c.values_of-d.result.now c.value_of-wanted.result c.is_same-in-loop-i-3.result (c.values_of-d.ensures ∙ values 3 c.index-patterns-3.result (omega arith) c.index-patterns-3.is) (long 3 (omega arith)) c.value_of-wanted.ensures c.is_same-in-loop-i-3.ensures)
    (lane_of part patterns plane i 4 c.values_of-e.result.now c.value_of-wanted.result c.is_same-in-loop-i-4.result (c.values_of-e.ensures ∙ values 4 c.index-patterns-4.result (omega arith) c.index-patterns-4.is) (long 4 (omega arith)) c.value_of-wanted.ensures c.is_same-in-loop-i-4.ensures)
    (lane_of part patterns plane i 5 c.values_of-f.result.now c.value_of-wanted.result c.is_same-in-loop-i-5.result (c.values_of-f.ensures ∙ values 5 c.index-patterns-5.result (omega arith) c.index-patterns-5.is) (long 5 (omega arith)) c.value_of-wanted.ensures c.is_same-in-loop-i-5.ensures)
    (lane_of part patterns plane i 6 c.values_of-g.result.now c.value_of-wanted.result c.is_same-in-loop-i-6.result (c.values_of-g.ensures ∙ values 6 c.index-patterns-6.result (omega arith) c.index-patterns-6.is) (long 6 (omega arith)) c.value_of-wanted.ensures c.is_same-in-loop-i-6.ensures)
    (lane_of part patterns plane i 7 c.values_of-h.result.now c.value_of-wanted.result c.is_same-in-loop-i-7.result (c.values_of-h.ensures ∙ values 7 c.index-patterns-7.result (omega arith) c.index-patterns-7.is) (long 7 (omega arith)) c.value_of-wanted.ensures c.is_same-in-loop-i-7.ensures) in
    λ k j lt below. elim (cases_eq k i) [
      | inl same ↦
          ap (λ (m : ℕ). has_bit (get_or (set bytes i byte) m 0) j) same ∙ ap (λ (n : ℕ). has_bit n j) (get_or-set_same bytes i byte 0 inside)
          ∙ c.byte_of.ensures j lt ∙ lanes j lt ∙ ap (λ (m : ℕ). is_in plane (driven_value part patterns j m)) (sym same)
      | inr other ↦ ap (λ (n : ℕ). has_bit n j) (get_or-set_other bytes i k byte 0 other) ∙ c.loop-i.invariant k j lt (omega (arith, below, other))
    ]
