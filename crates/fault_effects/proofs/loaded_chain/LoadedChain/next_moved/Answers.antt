use Rattle.std.proofs.Common.{◌≡◌, length, arith}
use Rattle.fault_effects.proofs.NetPoints.{moved_and_observed, not_both}
use Rattle.fault_effects.proofs.loaded_chain.LoadedChain.next_moved.Goals as goal

pub returns-in-None : goal.returns-in-None
returns-in-None g c = λ n le lt. not_both c.args.self.now.work.now.parts.now c.args.self.now.scratch.now c.observing-observing.result.now c.observing-observing.ensures n (c.in-None.ensures n le)

pub returns-then-net-nets : goal.returns-then-net-nets
returns-then-net-nets g c =
    let t = c.args.self.now.work.now.parts.now in
    let s = c.args.self.now.scratch.now in
    let observing = c.observing-observing.result.now in
    let are = c.observing-observing.ensures in
    let net = c.in-Some.net in
    let count : c.len-nets.result ≡ length t.netlist.nets = rw (c.nets.ensures.value, c.circuit.ensures.value) at c.len-nets.ensures in (
      c.in-Some.ensures.0,
      omega (arith, c.if-net-nets.true, count),
      moved_and_observed t s observing are net c.in-Some.ensures.1,
      λ n le lt. not_both t s observing are n (c.in-Some.ensures.2 n le lt),
    )

pub returns-else-net-nets : goal.returns-else-net-nets
returns-else-net-nets g c = λ n le lt.
    let t = c.args.self.now.work.now.parts.now in
    let count : c.len-nets.result ≡ length t.netlist.nets = rw (c.nets.ensures.value, c.circuit.ensures.value) at c.len-nets.ensures in
    not_both t c.args.self.now.scratch.now c.observing-observing.result.now c.observing-observing.ensures n (c.in-Some.ensures.2 n le (omega (arith, c.if-net-nets.false, count, lt)))
