use Rattle.std.proofs.Common.{◌≡◌, ◌&&◌, ℕ, ◌+◌, ◌*◌, Bool, ap, ◌∙◌, arith}
use Rattle.std.proofs.lemmas.List.{length-set}
use Rattle.scan_model.specs.Values.{are_opposite}
use Rattle.scan_model.specs.Faults.{stuck_value}
use Rattle.scan_model.specs.Netlist.{pin_at}
use Rattle.scan_model.specs.ScanTest.{point_at}
use Rattle.scan_model.specs.NetValue.{good_value}
use Rattle.scan_model.specs.Masks.{place_is_point}
use Rattle.packed_sim.specs.PackedParts.{captures}
use Rattle.packed_sim.proofs.FaultBits.{words_more, and_swap, straight_bit}
use Rattle.packed_sim.proofs.good.PackedGood.straight_fails.Goals as goal

pub loop-k-preserved : goal.loop-k-preserved
loop-k-preserved c =
    let t = c.args.parts.now in
    let word = c.args.word in
    let net_is : c.net_of_pin-net.result ≡ (pin_at t.netlist c.args.branch.0).net = rw c.circuit-circuit.ensures.value at c.net_of_pin-net.ensures.value in
    record {
      len = length-set c.loop-k.out c.loop-k.k c.bits_if.result ∙ c.loop-k.invariant.len;
      so_far = words_more (λ m i. captures t (64 * word + i) && (place_is_point t (pin_at t.netlist c.args.branch.0).place (point_at t m) && are_opposite (good_value t (64 * word + i) (pin_at t.netlist c.args.branch.0).net) (stuck_value c.args.branch.1)))
          c.loop-k.out c.loop-k.k c.bits_if.result (omega (arith, c.loop-k.invariant.len)) c.loop-k.invariant.so_far
          (λ i lt. c.bits_if.ensures i lt
          ∙ ap (λ (b : Bool). c.is_pin_at-asked.result && b) (c.stuck_word-bits.ensures i lt ∙ ap (λ (n : ℕ). captures t (64 * word + i) && are_opposite (good_value t (64 * word + i) n) (stuck_value c.args.branch.1)) net_is)
          ∙ and_swap c.is_pin_at-asked.result (captures t (64 * word + i)) (are_opposite (good_value t (64 * word + i) (pin_at t.netlist c.args.branch.0).net) (stuck_value c.args.branch.1))
          ∙ ap (λ (b : Bool). captures t (64 * word + i) && (b && are_opposite (good_value t (64 * word + i) (pin_at t.netlist c.args.branch.0).net) (stuck_value c.args.branch.1))) c.is_pin_at-asked.ensures);
    }

pub returns : goal.returns
returns c k i lt i_lt =
    c.loop-k.invariant.so_far k i (omega (arith, c.loop-k.invariant.len, c.requires.out)) i_lt
    ∙ straight_bit c.args.parts.now c.circuit-circuit.ensures.fits c.args.self.now.wiring.order.items c.requires.good.built.wired.wired.ordered c.args.branch.0 c.args.branch.1 (64 * c.args.word + i) k lt c.requires.fault c.requires.straight
