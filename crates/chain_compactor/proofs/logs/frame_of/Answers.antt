use Rattle.std.proofs.Common.{◌≡◌, List, length, map, sym, ap, ◌∙◌}
use Rattle.std.proofs.lemmas.List.{length-map}
use Rattle.scan_model.specs.declared.parts.Chain.{Chain}
use Rattle.scan_model.specs.ScanTest.{ScanTest}
use Rattle.compact_points.specs.declared.compactor.Channel.{Channel}
use Rattle.compact_points.specs.Channels.{greatest, cycles_of, compact_points}
use Rattle.chain_compactor.specs.ChannelReading.{length_in}
use Rattle.chain_compactor.proofs.CompactOrder.{points_are}
use Rattle.chain_compactor.proofs.logs.frame_of.Goals as goal

pub make-requires-clause-names : goal.make-requires-clause-names
make-requires-clause-names c =
    let xs : List Channel = c.args.compact.now.channels in
    let names : c.in_ok-names.names ≡ map (λ x. x.name) xs = c.in_ok-names.ensures ∙ ap (map (λ (x : Channel). x.name)) (c.as_slice-channels.ensures ∙ c.channels.ensures) in
    rw names c.requires.channels.names_differ

pub make-requires-clause-lengths : goal.make-requires-clause-lengths
make-requires-clause-lengths c =
    let xs : List Channel = c.as_slice-channels.result.now in
    ap length c.in_ok-cycles.ensures ∙ length-map xs (λ x. greatest (map (length_in c.as_slice.result.now) x.chains)) ∙ sym (length-map xs (λ x. x.name)) ∙ sym (ap length c.in_ok-names.ensures)

pub make-requires-clause-few : goal.make-requires-clause-few
make-requires-clause-few c =
    let xs : List Channel = c.args.compact.now.channels in
    let names : c.in_ok-names.names ≡ map (λ x. x.name) xs = c.in_ok-names.ensures ∙ ap (map (λ (x : Channel). x.name)) (c.as_slice-channels.ensures ∙ c.channels.ensures) in
    rw (names, length-map xs (λ (x : Channel). x.name)) c.requires.channels.few

pub make-requires-clause-points : goal.make-requires-clause-points
make-requires-clause-points c =
    let t : ScanTest = c.args.parts.now in
    let xs : List Channel = c.args.compact.now.channels in
    let cycles : c.in_ok-cycles.cycles.items ≡ map (cycles_of t) xs =
    c.in_ok-cycles.ensures
    ∙ ap (λ (hs : List Chain). map (λ (x : Channel). greatest (map (length_in hs) x.chains)) c.as_slice-channels.result.now) (c.as_slice.ensures ∙ c.chains.ensures.value)
    ∙ ap (map (cycles_of t)) (c.as_slice-channels.ensures ∙ c.channels.ensures) in
    let points : c.as_slice-points.result.now ≡ compact_points t xs = c.as_slice-points.ensures ∙ c.in_order.ensures ∙ c.requires.points in
    rw (cycles, points) (points_are (length t.netlist.outputs) (map (cycles_of t) xs))

pub make-requires-clause-few_points : goal.make-requires-clause-few_points
make-requires-clause-few_points c = rw (c.as_slice-points.ensures ∙ c.in_order.ensures) c.requires.few

pub returns-clause-value : goal.returns-clause-value
returns-clause-value c =
    let t : ScanTest = c.args.parts.now in
    let xs : List Channel = c.args.compact.now.channels in
    let names : c.in_ok-names.names ≡ map (λ x. x.name) xs = c.in_ok-names.ensures ∙ ap (map (λ (x : Channel). x.name)) (c.as_slice-channels.ensures ∙ c.channels.ensures) in
    let cycles : c.in_ok-cycles.cycles.items ≡ map (cycles_of t) xs =
    c.in_ok-cycles.ensures
    ∙ ap (λ (hs : List Chain). map (λ (x : Channel). greatest (map (length_in hs) x.chains)) c.as_slice-channels.result.now) (c.as_slice.ensures ∙ c.chains.ensures.value)
    ∙ ap (map (cycles_of t)) (c.as_slice-channels.ensures ∙ c.channels.ensures) in
    let points : c.as_slice-points.result.now ≡ c.args.compact.now.points = c.as_slice-points.ensures ∙ c.in_order.ensures in
    rw (names, cycles, points) at c.make.ensures.value
