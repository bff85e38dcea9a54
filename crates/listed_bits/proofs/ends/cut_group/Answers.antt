use Rattle.std.proofs.Common.{◌≡◌, ◌<◌, false, not, cond, ltb, ◌&&◌, ◌||◌, get_or, length, ap, ◌∙◌, arith}
use Rattle.std.specs.Prelude.{All}
use Rattle.std.proofs.lemmas.List.{get_or_default}
use Rattle.scan_model.specs.Coverage.{bit_of, not_after, has_point}
use Rattle.listed_bits.proofs.CutSteps.{list_any_where, marked, unmarked}
use Rattle.listed_bits.proofs.ends.cut_group.Goals as goal

pub reach_of_marked-reach-requires-clause-fails : goal.reach_of_marked-reach-requires-clause-fails
reach_of_marked-reach-requires-clause-fails c = rw c.as_slice.ensures c.requires.fails

pub returns-clause-ends : goal.returns-clause-ends
returns-clause-ends c = λ w k lt.
    let facts = c.args.facts.now in
    let group = c.args.group.now in
    let marks = c.write_marks.new.marks in
    let at_marks : All (λ f. (get_or marks f.point false && not_after (bit_of w k) f) ≡ (has_point group f.point && not_after (bit_of w k) f)) facts.fails = λ i d in_fails.
    let f = get_or facts.fails i d in
    let there : f.point < length c.args.marks.now = omega (arith, c.requires.points i d in_fails, c.requires.marks.0) in
    ap (λ b. b && not_after (bit_of w k) f) (c.write_marks.ensures f.point there ∙ marked (has_point group f.point) (get_or c.args.marks.now f.point false) (c.requires.marks.1 f.point false there)) in
    c.cut_ends.ensures w k lt
    ∙ ap (λ b. ltb w (get_or c.args.ends.now k 0) && (not (has_point group k) || b))
    ((rw c.as_slice.ensures at (c.reach_of_marked-reach.ensures.covered w k))
    ∙ list_any_where (λ f. get_or marks f.point false && not_after (bit_of w k) f) (λ f. has_point group f.point && not_after (bit_of w k) f) facts.fails at_marks)

pub returns-clause-marks : goal.returns-clause-marks
returns-clause-marks c = λ k d lt.
    let before : k < length c.write_marks.new.marks = omega (arith, lt, c.write_marks-2.auto.marks) in
    let first : k < length c.args.marks.now = omega (arith, before, c.write_marks.auto.marks) in
    get_or_default c.write_marks-2.new.marks k d false lt
    ∙ c.write_marks-2.ensures k before ∙ ap (λ b. cond (has_point c.args.group.now k) false b) (c.write_marks.ensures k first) ∙ unmarked (has_point c.args.group.now k) (get_or c.args.marks.now k false) (c.requires.marks.1 k false first)
