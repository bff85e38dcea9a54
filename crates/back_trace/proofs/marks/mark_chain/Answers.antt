use Rattle.std.proofs.Common.{◌≡◌, ℕ, ◌+◌, ◌*◌, subst, arith}
use Rattle.scan_model.specs.Universe.{cell_faults}
use Rattle.back_trace.specs.SuspectMarks.{MarksOn, no_fault}
use Rattle.back_trace.proofs.Standing.{place_there}
use Rattle.back_trace.proofs.marks.mark_chain.Goals as goal

pub mark_cell-requires-clause-faults : goal.mark_cell-requires-clause-faults
mark_cell-requires-clause-faults c = c.requires.faults c.loop-pos.pos c.loop-pos-test.true

pub overflow_add-first : goal.overflow_add-first
overflow_add-first c =
    let pos = c.loop-pos.pos in
    omega (arith, place_there c.args.parts.now (c.args.first + 4 * pos) (cell_faults c.args.chain pos) (c.requires.faults pos c.loop-pos-test.true) 0 (omega arith) no_fault, c.requires.traced.few)

pub loop-pos-preserved : goal.loop-pos-preserved
loop-pos-preserved c = λ b good within initial so_far.
    let from = c.args.first + 4 * c.loop-pos.pos in
    let next : from + 4 ≡ c.args.first + 4 * (c.loop-pos.pos + 1) = omega arith in
    subst (λ (n : ℕ). MarksOn c.args.parts.now c.args.block.now c.args.trace.now from n c.loop-pos.marks c.mark_cell.new.marks) next c.mark_cell.ensures b good within initial (c.loop-pos.invariant b good within initial so_far)

pub returns : goal.returns
returns c =
    let whole : c.args.first + 4 * c.loop-pos.pos ≡ c.args.first + 4 * c.args.count = omega (arith, c.loop-pos.auto.pos-end, c.loop-pos-test.false) in
    subst (λ (n : ℕ). MarksOn c.args.parts.now c.args.block.now c.args.trace.now c.args.first n c.args.marks.now c.loop-pos.marks) whole c.loop-pos.invariant
