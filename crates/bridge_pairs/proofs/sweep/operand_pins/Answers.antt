use Rattle.std.proofs.Common.{◌≡◌, ◌+◌, ◌-◌, length, get_or, ap, ◌∙◌, arith}
use Rattle.std.proofs.lemmas.List.{get_or_default}
use Rattle.scan_model.specs.Netlist.{net_at, no_net}
use Rattle.bridge_pairs.proofs.PairRows.{operands_read, operands_within}
use Rattle.bridge_pairs.proofs.sweep.operand_pins.Goals as goal

pub returns-clause-reads : goal.returns-clause-reads
returns-clause-reads c =
    let circuit = c.args.circuit.now in
    let net = c.index-as_slice-gate.result in
    let nets = c.as_slice.result.now in
    let are_nets : nets ≡ circuit.nets = c.as_slice.ensures ∙ c.nets.ensures.value in
    let is_net : net ≡ net_at circuit c.args.gate = c.index-as_slice-gate.is ∙ get_or_default nets c.args.gate net no_net (omega (arith, ap length are_nets)) ∙ ap (λ xs. get_or xs c.args.gate no_net) are_nets in
    let first : net.first_pin ≡ (net_at circuit c.args.gate).first_pin = ap (λ n. n.first_pin) is_net in
    let count : net.pin_count ≡ (net_at circuit c.args.gate).pin_count = ap (λ n. n.pin_count) is_net in
    operands_read circuit c.args.gate net.first_pin (net.first_pin + net.pin_count - net.first_pin) c.as_slice-2.result.now
    (c.as_slice-2.ensures ∙ c.pins.ensures.value) first (omega arith) (c.nets.ensures.circuit.netlist.operand_range c.args.gate c.requires)

pub returns-clause-nets : goal.returns-clause-nets
returns-clause-nets c =
    let circuit = c.args.circuit.now in
    let net = c.index-as_slice-gate.result in
    let nets = c.as_slice.result.now in
    let are_nets : nets ≡ circuit.nets = c.as_slice.ensures ∙ c.nets.ensures.value in
    let is_net : net ≡ net_at circuit c.args.gate = c.index-as_slice-gate.is ∙ get_or_default nets c.args.gate net no_net (omega (arith, ap length are_nets)) ∙ ap (λ xs. get_or xs c.args.gate no_net) are_nets in
    let first : net.first_pin ≡ (net_at circuit c.args.gate).first_pin = ap (λ n. n.first_pin) is_net in
    let count : net.pin_count ≡ (net_at circuit c.args.gate).pin_count = ap (λ n. n.pin_count) is_net in
    operands_within circuit c.args.gate net.first_pin (net.first_pin + net.pin_count - net.first_pin) c.as_slice-2.result.now
    (c.as_slice-2.ensures ∙ c.pins.ensures.value) first (omega arith) (c.nets.ensures.circuit.netlist.operand_range c.args.gate c.requires) c.nets.ensures.circuit.netlist
