use Rattle.std.proofs.Common.{ℕ, ◌<◌, length, sym, ap, subst, ◌∙◌}
use Rattle.std.specs.Prelude.{Contains}
use Rattle.scan_model.specs.declared.fault.Fault.{Fault}
use Rattle.scan_model.specs.Netlist.{pin_at}
use Rattle.scan_model.specs.ScanTest.{HasSite}
use Rattle.scan_model.specs.Masks.{mask, touched_nets}
use Rattle.lane_rows.specs.GoodRows.{pattern_of}
use Rattle.fault_effects.proofs.Owned.{gate_kind, stem_mask, touched_pin, only_one, one_of_two}
use Rattle.chain_compactor.proofs.observer.CompactCountsObserver.mask.Goals as goal

pub stuck_mask-requires-clause-net : goal.stuck_mask-requires-clause-net
stuck_mask-requires-clause-net c =
    let t = c.args.self.now.parts.now in
    let n = c.args.net in
    let Site : Fault → Type 0 = HasSite t in
    let In : Fault → Type 0 = λ f. Contains (touched_nets t f) n in
    let site = subst Site c.in-Stem.is c.requires.site in
    rw (only_one _ n (subst In c.in-Stem.is c.requires.touched)) site

pub branch_mask-requires-clause-pin : goal.branch_mask-requires-clause-pin
branch_mask-requires-clause-pin c = let Site : Fault → Type 0 = HasSite c.args.self.now.parts.now in subst Site c.in-Branch.is c.requires.site

pub bridge_mask-requires-clause-a : goal.bridge_mask-requires-clause-a
bridge_mask-requires-clause-a c = let Site : Fault → Type 0 = HasSite c.args.self.now.parts.now in (subst Site c.in-Bridge.is c.requires.site).0

pub bridge_mask-requires-clause-b : goal.bridge_mask-requires-clause-b
bridge_mask-requires-clause-b c = let Site : Fault → Type 0 = HasSite c.args.self.now.parts.now in (subst Site c.in-Bridge.is c.requires.site).1

pub bridge_mask-requires-clause-net : goal.bridge_mask-requires-clause-net
bridge_mask-requires-clause-net c =
    let t = c.args.self.now.parts.now in
    let n = c.args.net in
    let Site : Fault → Type 0 = HasSite t in
    let In : Fault → Type 0 = λ f. Contains (touched_nets t f) n in
    let site = subst Site c.in-Bridge.is c.requires.site in
    one_of_two (λ (k : ℕ). k < length t.netlist.nets) c.in-Bridge.a c.in-Bridge.b n (subst In c.in-Bridge.is c.requires.touched) site.0 site.1

pub returns-in-Stem : goal.returns-in-Stem
returns-in-Stem c = λ j lt captured.
    let t = c.args.self.now.parts.now in
    let n = c.args.net in
    let w = pattern_of c.args.self.now.block j in
    let In : Fault → Type 0 = λ f. Contains (touched_nets t f) n in
    c.stuck_mask.ensures.good c.requires.ready j lt captured
    ∙ stem_mask t _ n c.in-Stem.value w (sym (only_one _ n (subst In c.in-Stem.is c.requires.touched)))
    ∙ ap (λ (f : Fault). mask t f w n) (sym c.in-Stem.is)

pub returns-in-Branch : goal.returns-in-Branch
returns-in-Branch c = λ j lt captured.
    let t = c.args.self.now.parts.now in
    let n = c.args.net in
    let w = pattern_of c.args.self.now.block j in
    let In : Fault → Type 0 = λ f. Contains (touched_nets t f) n in
    let at = touched_pin t (pin_at t.netlist c.in-Branch.pin).place n (subst In c.in-Branch.is c.requires.touched) in
    let gate = gate_kind t n at.gate in
    c.branch_mask.ensures.good c.requires.ready n at.index j gate.0 at.at gate.1 lt captured ∙ ap (λ (f : Fault). mask t f w n) (sym c.in-Branch.is)

pub returns-in-Bridge : goal.returns-in-Bridge
returns-in-Bridge c = λ j lt captured.
    let t = c.args.self.now.parts.now in
    c.bridge_mask.ensures j lt captured ∙ ap (λ (f : Fault). mask t f (pattern_of c.args.self.now.block j) c.args.net) (sym c.in-Bridge.is)
