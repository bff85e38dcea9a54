use Rattle.std.proofs.Common.{◌/◌, sym, arith}
use Rattle.std.proofs.lemmas.Option.{slice_get_past}
use Rattle.scan_model.specs.Universe.{branches}
use Rattle.fault_universe.proofs.BranchPlaces.{length-branches_of, branch_zero_at, branch_one_at}
use Rattle.fault_universe.proofs.branches.branch_at.Goals as goal

pub returns-then-at-pins : goal.returns-then-at-pins
returns-then-at-pins c = sym (slice_get_past (branches c.args.parts.now) c.args.place (rw (← c.branch_pins-pins.ensures.pins) (omega (arith, c.if-at-pins.true, length-branches_of c.branch_pins-pins.result.now))))

pub returns-then-place-eq0 : goal.returns-then-place-eq0
returns-then-place-eq0 c = rw (← c.branch_pins-pins.ensures.pins) (sym (branch_zero_at c.branch_pins-pins.result.now (c.args.place / 2) c.args.place c.if-at-pins.false (omega (arith, c.if-place-eq0.true))))

pub returns-else-place-eq0 : goal.returns-else-place-eq0
returns-else-place-eq0 c = rw (← c.branch_pins-pins.ensures.pins) (sym (branch_one_at c.branch_pins-pins.result.now (c.args.place / 2) c.args.place c.if-at-pins.false (omega (arith, c.if-place-eq0.false))))
