use Rattle.std.proofs.Common.{◌≡◌, ℕ, ◌<◌, true, length, ap, arith, rules}
use Rattle.std.specs.Result.{is_ok}
use Rattle.std.proofs.lemmas.List.Elements.{All-push}
use Rattle.scan_model.specs.Netlist.{Netlist}
use Rattle.fault_effects.proofs.flip_order.push_upstream.Goals.{in-Once+in_ok-push, in_default}
use Rattle.fault_effects.proofs.flip_order.push_upstream.Goals as goal

pub read_count-i-end-requires : goal.read_count-i-end-requires
read_count-i-end-requires c = omega (arith, c.requires.gate, ap (λ (n : Netlist). length n.nets) c.circuit-circuit.ensures.value)

pub read_at-net-requires-clause-net : goal.read_at-net-requires-clause-net
read_at-net-requires-clause-net c = omega (arith, c.requires.gate, ap (λ (n : Netlist). length n.nets) c.circuit-circuit.ensures.value)

pub bounds : goal.bounds
bounds c = omega (arith, c.read_at-net.ensures.in_range, c.requires.reads.count, ap (λ (n : Netlist). length n.nets) c.circuit-circuit.ensures.value)

pub loop-i-preserved : goal.loop-i-preserved
loop-i-preserved c =
    let Below : ℕ → Type 0 = λ n. n < length c.args.parts.now.netlist.nets in
    let below : Below c.read_at-net.result = omega (arith, c.read_at-net.ensures.in_range, ap (λ (n : Netlist). length n.nets) c.circuit-circuit.ensures.value) in
    elim c.match-reads-net.branch [
      | in-Once+in_ok-push b ↦
          let good : is_ok b.push.result ≡ true = search rules in
          let items = rw good at b.push.ensures.items in
          rw (b.due-is, items) (All-push Below c.loop-i.due.items c.read_at-net.result c.loop-i.invariant below)
      | in_default b ↦ rw b.due-is c.loop-i.invariant
    ]
