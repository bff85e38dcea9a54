use Rattle.std.proofs.Common.{◌≡◌, ◌∙◌, ℕ, ◌+◌, ◌*◌, List, length, get_or, ap, sym, subst, arith}
use Rattle.std.specs.Prelude.{filter, slice_get}
use Rattle.std.proofs.lemmas.Option.{slice_get-get_or}
use Rattle.scan_model.specs.Netlist.{Netlist, is_branch, pin_numbers}
use Rattle.scan_model.specs.Universe.{branches, branch_faults}
use Rattle.back_trace.specs.SuspectMarks.{MarksOn, StandAt, no_fault}
use Rattle.back_trace.proofs.Standing.{branch_stands, branch_count, site_there}
use Rattle.back_trace.proofs.marks.mark_branches.Goals as goal

pub mark_branch-requires-clause-faults : goal.mark_branch-requires-clause-faults
mark_branch-requires-clause-faults c =
    let t = c.args.parts.now in
    let pins = c.as_slice-pins.result.now in
    let pins_are : pins ≡ filter (is_branch t.netlist) (pin_numbers t.netlist) = c.as_slice-pins.ensures ∙ c.branch_pins.ensures.value ∙ ap (λ (x : Netlist). filter (is_branch x) (pin_numbers x)) c.circuit.ensures.value in
    branch_stands t c.args.first c.loop-i.i (get_or pins c.loop-i.i 0) c.requires.first (ap (λ (xs : List ℕ). slice_get xs c.loop-i.i) (sym pins_are) ∙ slice_get-get_or pins c.loop-i.i 0 c.loop-i-test.true)

pub mark_branch-requires-clause-pin : goal.mark_branch-requires-clause-pin
mark_branch-requires-clause-pin c =
    let t = c.args.parts.now in
    let pins = c.as_slice-pins.result.now in
    let pins_are : pins ≡ filter (is_branch t.netlist) (pin_numbers t.netlist) = c.as_slice-pins.ensures ∙ c.branch_pins.ensures.value ∙ ap (λ (x : Netlist). filter (is_branch x) (pin_numbers x)) c.circuit.ensures.value in
    let pin = get_or pins c.loop-i.i 0 in
    let stand : StandAt t (c.args.first + 2 * c.loop-i.i) (branch_faults pin) = branch_stands t c.args.first c.loop-i.i pin c.requires.first (ap (λ (xs : List ℕ). slice_get xs c.loop-i.i) (sym pins_are) ∙ slice_get-get_or pins c.loop-i.i 0 c.loop-i-test.true) in
    site_there t (c.args.first + 2 * c.loop-i.i) (branch_faults pin) stand 0 (omega arith) no_fault c.requires.traced.sound

pub loop-i-preserved : goal.loop-i-preserved
loop-i-preserved c = λ b good within initial so_far.
    let from = c.args.first + 2 * c.loop-i.i in
    let next : from + 2 ≡ c.args.first + 2 * (c.loop-i.i + 1) = omega arith in
    subst (λ (n : ℕ). MarksOn c.args.parts.now c.args.block.now c.args.trace.now from n c.loop-i.marks c.mark_branch.new.marks) next c.mark_branch.ensures b good within initial (c.loop-i.invariant b good within initial so_far)

pub returns : goal.returns
returns c =
    let t = c.args.parts.now in
    let pins = c.as_slice-pins.result.now in
    let pins_are : pins ≡ filter (is_branch t.netlist) (pin_numbers t.netlist) = c.as_slice-pins.ensures ∙ c.branch_pins.ensures.value ∙ ap (λ (x : Netlist). filter (is_branch x) (pin_numbers x)) c.circuit.ensures.value in
    let whole : c.args.first + 2 * c.loop-i.i ≡ c.args.first + length (branches t) = omega (arith, ap length pins_are, c.loop-i.auto.i-end, c.loop-i-test.false, branch_count t) in
    subst (λ (n : ℕ). MarksOn t c.args.block.now c.args.trace.now c.args.first n c.args.marks.now c.loop-i.marks) whole c.loop-i.invariant
