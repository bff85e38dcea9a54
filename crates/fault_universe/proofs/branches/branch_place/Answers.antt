use Rattle.std.proofs.Common.{◌≤◌, ◌<◌, ◌*◌, ◌+◌, ℕ, length, get_or, refl}
use Rattle.scan_model.specs.Netlist.{is_branch}
use Rattle.scan_model.specs.declared.fault.Fault.TheVariants.{Branch}
use Rattle.scan_model.proofs.Orders.{filter_range_rises}
use Rattle.fault_universe.proofs.BranchPlaces.{branch_owner, branch_zero_at, branch_one_at, pin_found, pin_missing}
use Rattle.fault_universe.proofs.branches.branch_place.Goals as goal

pub returns-in_default-clause-place : goal.returns-in_default-clause-place
returns-in_default-clause-place c =
    let pins = c.branch_pins-pins.result.now in
    let rising : (i j : ℕ) → i ≤ j → j < length pins → get_or pins i 0 ≤ get_or pins j 0 = rw c.branch_pins-pins.ensures.pins (filter_range_rises (is_branch c.args.parts.now.netlist) 0 (length c.args.parts.now.netlist.pins)) in
    rw (← c.branch_pins-pins.ensures.pins) (λ there.
    let whose = branch_owner pins (Branch c.args.pin c.args.value) there in
    pin_missing pins c.args.pin c.binary_search.result c.in_default.field-0 c.binary_search.ensures.position rising c.in_default.is (rw whose.2 at whose.1))

pub returns-in-Zero-clause-place : goal.returns-in-Zero-clause-place
returns-in-Zero-clause-place c =
    let pins = c.branch_pins-pins.result.now in
    let rising : (i j : ℕ) → i ≤ j → j < length pins → get_or pins i 0 ≤ get_or pins j 0 = rw c.branch_pins-pins.ensures.pins (filter_range_rises (is_branch c.args.parts.now.netlist) 0 (length c.args.parts.now.netlist.pins)) in
    let found = pin_found pins c.args.pin c.binary_search.result c.in-Ok.at c.binary_search.ensures.position rising c.in-Ok.is in
    rw (← c.branch_pins-pins.ensures.pins, c.in-Zero.is, ← found.1) (branch_zero_at pins c.in-Ok.at (2 * c.in-Ok.at) found.0 refl)

pub returns-in-One-clause-place : goal.returns-in-One-clause-place
returns-in-One-clause-place c =
    let pins = c.branch_pins-pins.result.now in
    let rising : (i j : ℕ) → i ≤ j → j < length pins → get_or pins i 0 ≤ get_or pins j 0 = rw c.branch_pins-pins.ensures.pins (filter_range_rises (is_branch c.args.parts.now.netlist) 0 (length c.args.parts.now.netlist.pins)) in
    let found = pin_found pins c.args.pin c.binary_search.result c.in-Ok.at c.binary_search.ensures.position rising c.in-Ok.is in
    rw (← c.branch_pins-pins.ensures.pins, c.in-One.is, ← found.1) (branch_one_at pins c.in-Ok.at (2 * c.in-Ok.at + 1) found.0 refl)
