use Rattle.std.proofs.Common.{◌≡◌, length, ◌∙◌, arith}
use Rattle.packed_sim.proofs.Observed.{points_are}
use Rattle.packed_sim.proofs.made.circuit_links.Goals as goal

pub make-requires : goal.make-requires
make-requires c = rw (c.circuit-circuit.ensures.value, c.deref.ensures.value) c.in_ok-observed.ensures.in_range

pub of-requires-clause-keys : goal.of-requires-clause-keys
of-requires-clause-keys c =
    let count : c.len-nets.result ≡ length c.args.parts.now.netlist.nets = rw (c.nets.ensures.value, c.circuit-circuit.ensures.value) at c.len-nets.ensures in
    rw (count, c.deref-2.ensures.value) c.in_ok-observed.ensures.in_range

pub of-requires-clause-fit : goal.of-requires-clause-fit
of-requires-clause-fit c = rw c.deref-2.ensures.value c.in_ok-observed.ensures.few

pub set_of-requires-clause-listed : goal.set_of-requires-clause-listed
set_of-requires-clause-listed c =
    let count : c.len-nets.result ≡ length c.args.parts.now.netlist.nets = rw (c.nets.ensures.value, c.circuit-circuit.ensures.value) at c.len-nets.ensures in
    rw (count, c.deref-3.ensures.value) c.in_ok-observed.ensures.in_range

pub returns : goal.returns
returns c =
    let t = c.args.parts.now in
    let count : c.len-nets.result ≡ length t.netlist.nets = rw (c.nets.ensures.value, c.circuit-circuit.ensures.value) at c.len-nets.ensures in
    let observed = c.in_ok-observed.ensures.are in
    let groups = rw c.deref-2.ensures.value at c.in_ok-points.ensures.groups in
    record {
      observed = observed;
      wired = rw (c.circuit-circuit.ensures.value, c.deref.ensures.value) at c.in_ok-wiring.ensures.wired;
      kept = rw c.circuit-circuit.ensures.value at c.in_ok-wiring.ensures.kept;
      net_count = c.in_ok-points.ensures.len ∙ count;
      points = λ n lt. groups n (omega (arith, count)) ∙ points_are t c.in_ok-observed.observed.items n observed;
      observing = rw (c.deref-3.ensures.value, observed) at c.in_ok-observing.ensures;
    }
