use Rattle.std.proofs.Common.{◌≡◌, ℕ, ◌+◌, ◌<◌, List, length, get_or, set, sym, ap, subst, ◌∙◌, arith}
use Rattle.std.proofs.lemmas.List.{get_or_default}
use Rattle.scan_model.specs.declared.circuit.Pin.{Pin}
use Rattle.scan_model.specs.declared.circuit.PinPlace.TheVariants.{Operand}
use Rattle.scan_model.specs.Netlist.{Netlist, pin_at, no_pin}
use Rattle.fault_effects.specs.declared.readers.Reads.TheVariants.{Never}
use Rattle.fault_effects.specs.Readers.{AreReadsUpTo}
use Rattle.fault_effects.proofs.PinReads.{reads_next}
use Rattle.fault_effects.proofs.readers.reads_of.Goals as goal

pub loop-pin-preserved : goal.loop-pin-preserved
loop-pin-preserved c =
    let net = c.args.parts.now.netlist in
    let k = c.loop-pin.pin in
    let reads = c.loop-pin.reads.items in
    let pins : c.as_slice-pins.result.now ≡ net.pins = c.as_slice-pins.ensures ∙ c.pins.ensures.value ∙ ap (λ (n : Netlist). n.pins) c.circuit-circuit.ensures.value in
    let no_pin_there : Pin = record { net = 0; place = Operand 0 0 } in
    let own : (pin_at net k).net ≡ (get_or c.as_slice-pins.result.now k no_pin_there).net =
    ap (λ (ps : List Pin). (get_or ps k no_pin).net) (sym pins) ∙ ap (λ (p : Pin). p.net) (sym (get_or_default c.as_slice-pins.result.now k no_pin_there no_pin c.loop-pin-test.true)) in
    let inside : (pin_at net k).net < length reads = omega (arith, c.circuit-circuit.ensures.fits.circuit.netlist.pin_nets k (omega (arith, c.loop-pin-test.true, ap length pins)), c.loop-pin.invariant.count) in
    let Next : ℕ → Type 0 = λ n. AreReadsUpTo net (k + 1) (set reads n c.read_again.result) in
    subst Next own (reads_next net k reads c.read_again.result c.loop-pin.invariant inside c.read_again.ensures.some
    (λ p is. let told = c.read_again.ensures.first p is in let Was : ℕ → Type 0 = λ n. get_or reads n Never ≡ Never in (subst Was (sym own) (get_or_default reads _ Never c.index.result.now (subst (λ n. n < length reads) own inside) ∙ sym c.index.ensures ∙ told.0), told.1)))

pub returns : goal.returns
returns c =
    let net = c.args.parts.now.netlist in
    let pins : c.as_slice-pins.result.now ≡ net.pins = c.as_slice-pins.ensures ∙ c.pins.ensures.value ∙ ap (λ (n : Netlist). n.pins) c.circuit-circuit.ensures.value in
    let whole : c.loop-pin.pin ≡ length net.pins = omega (arith, c.loop-pin-test.false, c.loop-pin.auto.pin-end, ap length pins) in
    let Upto : ℕ → Type 0 = λ k. AreReadsUpTo net k c.loop-pin.reads.items in
    subst Upto whole c.loop-pin.invariant
