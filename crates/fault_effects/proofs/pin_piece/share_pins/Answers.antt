use Rattle.std.proofs.Common.{◌≡◌, ◌+◌, [], get_or, sym, ap, subst, ◌∙◌}
use Rattle.std.specs.Prelude.{Contains}
use Rattle.scan_model.specs.declared.fault.Fault.{Fault}
use Rattle.scan_model.specs.declared.fault.Fault.TheVariants as fault
use Rattle.scan_model.specs.ScanTest.{HasSite}
use Rattle.scan_model.specs.Masks.{touched_nets}
use Rattle.fault_effects.specs.FaultModel.{fails_in, straight_in}
use Rattle.fault_effects.specs.Owners.{owner, suspect_at, no_suspect}
use Rattle.fault_effects.specs.Shares.{IsAmong, suspect_fails}
use Rattle.fault_effects.proofs.ShareLists.{shares_join, shares_push, among_more}
use Rattle.fault_effects.proofs.Owned.{straight_pin}
use Rattle.fault_effects.proofs.Effects.{straight_fails}
use Rattle.fault_effects.proofs.pin_piece.share_pins.Goals as goal

pub straight-requires-clause-pin : goal.straight-requires-clause-pin
straight-requires-clause-pin g c =
    let t = c.args.work.now.parts.now in
    let own = c.requires.group c.loop-item.item-index 0 c.loop-item-test.true in
    rw c.requires.work.test (subst (HasSite t) c.in-Branch.is (c.requires.work.suspects _ no_suspect own.within).site)

pub loop-item-preserved : goal.loop-item-preserved
loop-item-preserved g c =
    let work = c.requires.work in
    let o = c.args.work.now.observer.now in
    let t = c.args.work.now.parts.now in
    let means = g.O.Observer.means o in
    let m = g.O.Observer.model o in
    let b = g.O.Observer.block o in
    let suspects = c.args.work.now.suspects.now in
    let group = c.args.group.now in
    let i = c.loop-item.item-index in
    let item = get_or group i 0 in
    let own = c.requires.group i 0 c.loop-item-test.true in
    let s = suspect_at suspects item in
    let p = c.in-Branch.pin in
    let v = c.in-Branch.value in
    let f = fault.Branch p v in
    let In : Fault → Type 0 = Contains work.faults in
    let there = subst In c.in-Branch.is (work.among item no_suspect own.within) in
    let in_pins = subst (HasSite t) c.in-Branch.is (work.suspects item no_suspect own.within).site in
    let touches : touched_nets t f ≡ [] = straight_pin t p v c.circuit.ensures.fits in_pins (sym (ap (owner t) c.in-Branch.is) ∙ own.owned) in
    shares_join means m b suspects (IsAmong group i) (λ k. k ≡ item) (IsAmong group (i + 1)) c.args.shares.now c.loop-item.shares c.push.new.self c.loop-item.invariant
    (shares_push means m b suspects c.loop-item.shares c.push.new.self item c.in_ok-part.part c.in_ok-push.ensures.ok own.within
    (g.met.O.Observer.same o c.in_ok-part.part (straight_in m b f) (suspect_fails m b suspects item)
    (λ q j places lt. straight_fails t work.faults m work.model b f there tt touches q j places lt ∙ ap (λ (x : Fault). fails_in m b x q j) (sym c.in-Branch.is))
    c.in_ok-part.ensures))
    (λ k lt among. among_more group i k among)
