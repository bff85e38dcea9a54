use Rattle.std.proofs.Common.{ℕ, ◌/◌, ◌%◌, ◌<◌, length, ap, ◌∙◌, arith}
use Rattle.std.proofs.lemmas.List.{length-set, length-map}
use Rattle.scan_model.specs.Values.{are_opposite}
use Rattle.scan_model.specs.ScanTest.{points_of}
use Rattle.scan_model.specs.Suspect.{observed_net}
use Rattle.packed_sim.specs.PackedParts.{good_at, now_at, observed_at}
use Rattle.two_frame.proofs.BlockReads.{bits_more, net_read}
use Rattle.two_frame.proofs.frame_good.FrameGood.write_differences.Goals as goal

pub difference-differs-requires-clause-net : goal.difference-differs-requires-clause-net
difference-differs-requires-clause-net c =
    let t = c.args.parts.now in
    let inside : c.loop-k.k < length c.observed.result.now = omega (arith, c.loop-k-test.true, c.requires.out, ap length c.observed.ensures, length-map (points_of t) (observed_net t)) in
    (net_read t c.circuit.ensures.fits c.observed.result.now c.observed.ensures c.loop-k.k inside).1

pub loop-k-preserved : goal.loop-k-preserved
loop-k-preserved c =
    let t = c.args.parts.now in
    let g = c.args.self.now.second in
    let s = c.args.scratch.now in
    let k = c.loop-k.k in
    let b = c.args.pattern / 512 in
    let j = c.args.pattern % 512 in
    let inside : k < length c.observed.result.now = omega (arith, c.loop-k-test.true, c.requires.out, ap length c.observed.ensures, length-map (points_of t) (observed_net t)) in
    let net = (net_read t c.circuit.ensures.fits c.observed.result.now c.observed.ensures k inside).0 in
    record {
      len = length-set c.loop-k.out k c.has.result ∙ c.loop-k.invariant.len;
      so_far = bits_more (λ m. are_opposite (good_at g b j (observed_at t m)) (now_at g s b j (observed_at t m))) c.loop-k.out k c.has.result (omega (arith, c.loop-k.invariant.len, c.loop-k-test.true)) c.loop-k.invariant.so_far
          (c.has.ensures ∙ c.difference-differs.ensures j (omega arith) ∙ ap (λ (n : ℕ). are_opposite (good_at g b j n) (now_at g s b j n)) net);
    }
