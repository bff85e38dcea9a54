use Rattle.std.proofs.Common.{ℕ, ◌<◌, Bool, ◌&&◌, length, sym, ap, subst, ◌∙◌, arith}
use Rattle.std.specs.Prelude.{Contains}
use Rattle.scan_model.specs.declared.fault.Fault.{Fault}
use Rattle.scan_model.specs.declared.fault.Fault.TheVariants as fault
use Rattle.scan_model.specs.Netlist.{Netlist, pin_at}
use Rattle.scan_model.specs.Walks.{IsEvaluationOrder}
use Rattle.scan_model.specs.ScanTest.{HasSite}
use Rattle.scan_model.specs.Masks.{mask_from, touched_nets}
use Rattle.lane_rows.specs.Lanes.{lane}
use Rattle.lane_rows.specs.GoodRows.{pattern_of}
use Rattle.lane_rows.specs.Stimuli.{AreRowsOf}
use Rattle.packed_sim.specs.declared.good.PackedGood.{PackedGood}
use Rattle.fault_effects.proofs.Owned.{gate_kind, touched_pin, only_one}
use Rattle.frame_rows.specs.Frames.{second_source, net_changes}
use Rattle.frame_rows.specs.SecondRows.{second_stimuli}
use Rattle.two_frame.specs.TwoFrame.{makes_transition}
use Rattle.two_frame.proofs.FrameFlips.{stem_flips}
use Rattle.two_frame.proofs.frame_observer.FrameCountsObserver.mask.Goals as goal

pub returns-in-Stem : goal.returns-in-Stem
returns-in-Stem c = λ j lt captured.
    let t = c.args.self.now.points.parts.now in
    let n = c.args.net in
    let v = c.in-Stem.value in
    let w = pattern_of c.args.self.now.points.block j in
    let Site : Fault → Type 0 = HasSite t in
    let In : Fault → Type 0 = λ f. Contains (touched_nets t f) n in
    let Ordered : Netlist → Type 0 = λ x. IsEvaluationOrder x c.order.result.now in
    let same = only_one c.in-Stem.net n (subst In c.in-Stem.is c.requires.touched) in
    let site : c.in-Stem.net < length t.netlist.nets = subst Site c.in-Stem.is c.requires.site in
    c.launched.ensures j lt captured
    ∙ stem_flips t c.circuit.ensures.fits c.order.result.now (subst Ordered c.circuit.ensures.value c.order.ensures) w n v (omega (arith, same, site))
    ∙ ap (λ (m : ℕ). net_changes t v w m && mask_from t.netlist (second_source t w) (fault.Stem m v) n) same
    ∙ ap (λ (f : Fault). makes_transition t f w && mask_from t.netlist (second_source t w) f n) (sym c.in-Stem.is)

pub returns-in-Branch : goal.returns-in-Branch
returns-in-Branch c = λ j lt captured.
    let t = c.args.self.now.points.parts.now in
    let n = c.args.net in
    let p = c.in-Branch.pin in
    let v = c.in-Branch.value in
    let w = pattern_of c.args.self.now.points.block j in
    let In : Fault → Type 0 = λ f. Contains (touched_nets t f) n in
    let Rows : PackedGood → Type 0 = λ good. AreRowsOf t.netlist (second_stimuli t) good.rows in
    let at = touched_pin t (pin_at t.netlist p).place n (subst In c.in-Branch.is c.requires.touched) in
    let gate = gate_kind t n at.gate in
    c.and.ensures j lt
    ∙ ap (λ (x : Bool). x && lane c.branch_mask-flips.result j) (c.pin_launched.ensures j lt captured)
    ∙ ap (λ (x : Bool). net_changes t v w (pin_at t.netlist p).net && x) (c.branch_mask-flips.ensures.lanes (second_stimuli t) (subst Rows (sym c.args.self.now.second) c.requires.ready.second) n at.index j gate.0 at.at gate.1 lt captured)
    ∙ ap (λ (f : Fault). makes_transition t f w && mask_from t.netlist (second_source t w) f n) (sym c.in-Branch.is)
