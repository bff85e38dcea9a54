use Rattle.std.proofs.Common.{◌≡◌, ℕ, List, length, map, Ok, Err, rules, refl, ap, ◌∙◌, arith}
use Rattle.std.proofs.lemmas.List.{length-map}
use Rattle.scan_model.specs.Netlist.{Netlist}
use Rattle.scan_model.specs.ScanTest.{ScanTest}
use Rattle.scan_model.proofs.PointCount.{outputs_few}
use Rattle.text_parts.specs.ReadResults.{Fails}
use Rattle.compact_points.specs.declared.compactor.Channel.{Channel}
use Rattle.compact_points.specs.Channels.{Compactor, compactor, compactor_of, cycles_of, points_over}
use Rattle.chain_compactor.specs.ChannelText.{channel_reading}
use Rattle.chain_compactor.proofs.PointCount.{greatest-few}
use Rattle.chain_compactor.proofs.Judged.{channels_first, channels_none}
use Rattle.chain_compactor.proofs.reading.read_channels.Goals as goal

pub points_over-requires-clause-outputs : goal.points_over-requires-clause-outputs
points_over-requires-clause-outputs c =
    let t : ScanTest = c.args.parts.now in
    let outputs : c.len-outputs.result ≡ length t.netlist.outputs = c.len-outputs.ensures ∙ ap length (c.outputs.ensures.value ∙ ap (λ (n : Netlist). n.outputs) c.circuit.ensures.value) in
    omega (arith, outputs, outputs_few t.netlist c.circuit.ensures.fits.circuit)

pub points_over-requires-clause-channels : goal.points_over-requires-clause-channels
points_over-requires-clause-channels c =
    let kept = c.in_ok-kept.ensures.kept in
    rw (c.deref.ensures.value, kept.cycles, length-map c.in_ok-kept.kept.channels.items (cycles_of c.args.parts.now)) kept.channels.few

pub points_over-requires-clause-cycles : goal.points_over-requires-clause-cycles
points_over-requires-clause-cycles c =
    let t : ScanTest = c.args.parts.now in
    let kept = c.in_ok-kept.ensures.kept in
    rw (c.deref.ensures.value, kept.cycles) (greatest-few (length t.netlist.outputs) (map (cycles_of t) c.in_ok-kept.kept.channels.items) 131072 kept.few)

module _ (t : ScanTest) (outputs : ℕ) (channels : List Channel) (cycles : List ℕ) (outputs_are : outputs ≡ length t.netlist.outputs) (cycles_are : cycles ≡ map (cycles_of t) channels) where
  made_is : compactor channels (points_over outputs cycles) ≡ compactor_of t channels
  made_is = rw (outputs_are, cycles_are) refl

pub of-requires : goal.of-requires
of-requires c =
    let t : ScanTest = c.args.parts.now in
    let kept = c.in_ok-kept.ensures.kept in
    let outputs : c.len-outputs.result ≡ length t.netlist.outputs = c.len-outputs.ensures ∙ ap length (c.outputs.ensures.value ∙ ap (λ (n : Netlist). n.outputs) c.circuit.ensures.value) in
    let cycles : c.deref.result.now ≡ map (cycles_of t) c.in_ok-kept.kept.channels.items = c.deref.ensures.value ∙ kept.cycles in
    rw (c.in_ok-points.ensures, outputs, cycles) kept.few

pub returns-clause-reading : goal.returns-clause-reading
returns-clause-reading c =
    let t : ScanTest = c.args.parts.now in
    let outputs : c.len-outputs.result ≡ length t.netlist.outputs = c.len-outputs.ensures ∙ ap length (c.outputs.ensures.value ∙ ap (λ (n : Netlist). n.outputs) c.circuit.ensures.value) in
    let cycles : c.deref.result.now ≡ map (cycles_of t) c.in_ok-kept.kept.channels.items = c.deref.ensures.value ∙ c.in_ok-kept.ensures.kept.cycles in
    let is : c.of.result ≡ compactor_of t c.in_ok-kept.kept.channels.items = c.of.ensures ∙ rw (c.from_vec.ensures, c.in_ok-points.ensures) (made_is t c.len-outputs.result c.in_ok-kept.kept.channels.items c.deref.result.now outputs cycles) in
    rw is c.in_ok-kept.ensures.reading

pub returns-clause-none : goal.returns-clause-none
returns-clause-none c =
    channels_none (λ (x : Compactor). x) c.args.parts.now c.args.bytes.now (Ok (compactor_of c.args.parts.now c.in_ok-kept.kept.channels.items)) c.in_ok-kept.ensures.reading

pub returns-clause-fits : goal.returns-clause-fits
returns-clause-fits c =
    let t : ScanTest = c.args.parts.now in
    let kept = c.in_ok-kept.ensures.kept in
    let outputs : c.len-outputs.result ≡ length t.netlist.outputs = c.len-outputs.ensures ∙ ap length (c.outputs.ensures.value ∙ ap (λ (n : Netlist). n.outputs) c.circuit.ensures.value) in
    let cycles : c.deref.result.now ≡ map (cycles_of t) c.in_ok-kept.kept.channels.items = c.deref.ensures.value ∙ kept.cycles in
    let is : c.of.result ≡ compactor_of t c.in_ok-kept.kept.channels.items = c.of.ensures ∙ rw (c.from_vec.ensures, c.in_ok-points.ensures) (made_is t c.len-outputs.result c.in_ok-kept.kept.channels.items c.deref.result.now outputs cycles) in
    rw is (record { channels = kept.channels; points = refl; few = kept.few })

pub returns-in_err-kept-clause-first : goal.returns-in_err-kept-clause-first
returns-in_err-kept-clause-first c =
    let is : c.from_residual.result ≡ Err c.in_err-kept.field-0.0 = search rules in
    let fails : Fails c.in_err-kept.field-0.0 (channel_reading c.args.parts.now c.args.bytes.now) = c.in_err-kept.ensures.reading in
    rw is (channels_first (λ (x : Compactor). x) c.args.parts.now c.args.bytes.now (Err c.in_err-kept.field-0.0) fails)
