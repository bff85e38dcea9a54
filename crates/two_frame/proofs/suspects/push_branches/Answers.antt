use Rattle.std.proofs.Common.{◌≡◌, ℕ, ◌+◌, ◌*◌, ◌<◌, length, get_or, refl, sym, ap, subst, arith}
use Rattle.std.specs.Prelude.{filter}
use Rattle.std.proofs.lemmas.List.{length-append}
use Rattle.scan_model.specs.Netlist.{is_branch, pin_numbers, pin_at}
use Rattle.scan_model.specs.Marks.{is_marked}
use Rattle.scan_model.specs.Universe.{stems, branches}
use Rattle.two_frame.specs.ReachingFaults.{AreReachingTo}
use Rattle.two_frame.proofs.ReachingFaults.{branches_len, pin_within, branch_rises, branch_falls}
use Rattle.two_frame.proofs.suspects.push_branches.Goals as goal

pub bounds-pins-at : goal.bounds-pins-at
bounds-pins-at c =
    let t = c.args.parts.now in
    let pins = c.as_slice-pins.result.now in
    let are : pins ≡ filter (is_branch t.netlist) (pin_numbers t.netlist) = rw (c.as_slice-pins.ensures, c.branch_pins.ensures.value, c.circuit-circuit.ensures.value) refl in
    omega (arith, c.loop-at-test.true, c.branch_count-at-end.ensures.count, branches_len t c.args.marks.now pins are)

pub net_of_pin-requires : goal.net_of_pin-requires
net_of_pin-requires c =
    let t = c.args.parts.now in
    let pins = c.as_slice-pins.result.now in
    let are : pins ≡ filter (is_branch t.netlist) (pin_numbers t.netlist) = rw (c.as_slice-pins.ensures, c.branch_pins.ensures.value, c.circuit-circuit.ensures.value) refl in
    let within : c.loop-at.at < length pins = omega (arith, c.loop-at-test.true, c.branch_count-at-end.ensures.count, branches_len t c.args.marks.now pins are) in
    rw c.circuit-circuit.ensures.value (pin_within t c.args.marks.now pins c.loop-at.at are within)

pub loop-at-preserved : goal.loop-at-preserved
loop-at-preserved c =
    let t = c.args.parts.now in
    let marks = c.args.marks.now in
    let pins = c.as_slice-pins.result.now in
    let i = c.loop-at.at in
    let are : pins ≡ filter (is_branch t.netlist) (pin_numbers t.netlist) = rw (c.as_slice-pins.ensures, c.branch_pins.ensures.value, c.circuit-circuit.ensures.value) refl in
    let within : i < length pins = omega (arith, c.loop-at-test.true, c.branch_count-at-end.ensures.count, branches_len t c.args.marks.now pins are) in
    let there = pin_within t c.args.marks.now pins i are within in
    let net : (pin_at t.netlist (get_or pins i 0)).net ≡ c.net_of_pin.result = sym (rw c.circuit-circuit.ensures.value at c.net_of_pin.ensures.value) in
    let marked = ap (is_marked marks) net in
    let place : length (stems t) + 2 * i ≡ c.stem_count-stems.result + 2 * i = omega (arith, c.stem_count-stems.ensures.count) in
    let next : length (stems t) + 2 * i + 1 ≡ c.stem_count-stems.result + 2 * i + 1 = omega (arith, c.stem_count-stems.ensures.count) in
    let To : ℕ → Type 0 = λ k. AreReachingTo t marks k c.push_site.new.suspects in
    let From : ℕ → Type 0 = λ k. AreReachingTo t marks k c.loop-at.suspects in
    subst To (omega (arith, c.stem_count-stems.ensures.count))
    (c.in_ok-push_site.ensures t marks (branch_rises t marks pins i _ _ are within place there marked) (branch_falls t marks pins i _ _ are within next there marked) (subst From place c.loop-at.invariant))

pub returns : goal.returns
returns c =
    let t = c.args.parts.now in
    let pins = c.as_slice-pins.result.now in
    let are : pins ≡ filter (is_branch t.netlist) (pin_numbers t.netlist) = rw (c.as_slice-pins.ensures, c.branch_pins.ensures.value, c.circuit-circuit.ensures.value) refl in
    let To : ℕ → Type 0 = λ k. AreReachingTo t c.args.marks.now k c.loop-at.suspects in
    subst To (omega (arith, c.loop-at-test.false, c.loop-at.auto.at-end, c.branch_count-at-end.ensures.count, branches_len t c.args.marks.now pins are, length-append (stems t) (branches t))) c.loop-at.invariant
