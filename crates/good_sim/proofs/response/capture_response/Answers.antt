use Rattle.std.proofs.Common.{refl}
use Rattle.std.proofs.lemmas.List.{get_or_default}
use Rattle.scan_model.specs.ChainShift.{value_at}
use Rattle.scan_model.specs.ScanTest.{no_pattern}
use Rattle.single_faults.specs.Effect.{forces}
use Rattle.good_sim.specs.declared.chains.Direction.TheVariants.{Out}
use Rattle.good_sim.specs.Shifts.{shifted_rows}
use Rattle.good_sim.specs.PointValues.{outputs_over, captured_rows_over}
use Rattle.good_sim.proofs.Observing.{loads_fit, capture_is}
use Rattle.good_sim.proofs.response.capture_response.Goals as goal

pub source_values-requires-clause-loads : goal.source_values-requires-clause-loads
source_values-requires-clause-loads c = rw c.requires.loads (loads_fit c.args.parts.now c.args.fault c.args.pattern c.patterns.ensures.fits c.requires.pattern)

pub returns : goal.returns
returns c =
    let t = c.args.parts.now in
    let forced = forces c.in_ok-effect.effect in
    let value = value_at c.in_ok-values.values.items in
    let source = rw (c.as_slice-inputs.ensures, c.as_slice.ensures, c.patterns.ensures.value, get_or_default t.patterns c.args.pattern _ no_pattern c.requires.pattern, c.requires.loads) at c.in_ok-source.ensures.value in
    let forced_is = rw c.deref.ensures.value at c.in_ok-effect.ensures.forces in
    let values = rw (c.circuit.ensures.value, c.deref-2.ensures.value) at c.in_ok-values.ensures in
    let held = captured_rows_over t.netlist forced value t.chains in
    let shown = rw c.deref-3.ensures.value at c.shown_after_capture.ensures in
    rw (capture_is t c.args.fault c.args.pattern forced c.in_ok-source.source.items c.in_ok-values.values.items (outputs_over t.netlist forced value) held (shifted_rows Out c.args.fault held)
    c.patterns.ensures.fits c.requires.captures source forced_is values refl refl refl) at shown
