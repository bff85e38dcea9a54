use Rattle.std.proofs.Common.{◌≡◌, ◌&&◌, ℕ, ◌+◌, ◌*◌, ◌/◌, ◌%◌, ◌<◌, length, get_or, ap, ◌∙◌, arith}
use Rattle.std.proofs.lemmas.List.{get_or_read, length-set}
use Rattle.scan_model.specs.Values.{are_opposite}
use Rattle.scan_model.specs.ScanTest.{points_of}
use Rattle.packed_sim.specs.PackedParts.{captures, good_at, now_at, observed_at}
use Rattle.packed_sim.proofs.Belonging.{observed_is, observed_len, observed_in_range}
use Rattle.packed_sim.proofs.FaultBits.{words_more}
use Rattle.packed_sim.proofs.good.PackedGood.write_differences.Goals as goal

pub difference_word-bits-requires-clause-net : goal.difference_word-bits-requires-clause-net
difference_word-bits-requires-clause-net c =
    let t = c.args.parts.now in
    let g = c.args.self.now in
    let k = c.loop-k.k in
    let in_points : k < length (points_of t) = omega (arith, c.loop-k.invariant.len, c.requires.out) in
    let read : c.index-net.result.now ≡ get_or g.observed.items k 0 = get_or_read g.observed.items k c.index-net.result.now (omega (arith, observed_len t c.circuit.ensures.fits g c.requires.good.built, in_points)) c.index-net.ensures 0 in
    omega (arith, read, observed_is t c.circuit.ensures.fits g c.requires.good.built k in_points, observed_in_range t c.circuit.ensures.fits g c.requires.good.built k in_points)

pub loop-k-preserved : goal.loop-k-preserved
loop-k-preserved c =
    let t = c.args.parts.now in
    let g = c.args.self.now in
    let k = c.loop-k.k in
    let word = c.args.word in
    let in_points : k < length (points_of t) = omega (arith, c.loop-k.invariant.len, c.requires.out) in
    let read : c.index-net.result.now ≡ get_or g.observed.items k 0 = get_or_read g.observed.items k c.index-net.result.now (omega (arith, observed_len t c.circuit.ensures.fits g c.requires.good.built, in_points)) c.index-net.ensures 0 in
    let net_is : c.index-net.result.now ≡ observed_at t k = read ∙ observed_is t c.circuit.ensures.fits g c.requires.good.built k in_points in
    record {
      len = length-set c.loop-k.out k c.difference_word-bits.result ∙ c.loop-k.invariant.len;
      so_far = words_more (λ m i. captures t (64 * word + i) && are_opposite (good_at g (word / 8) (64 * (word % 8) + i) (observed_at t m)) (now_at g c.args.scratch.now (word / 8) (64 * (word % 8) + i) (observed_at t m)))
          c.loop-k.out k c.difference_word-bits.result (omega (arith, c.loop-k.invariant.len)) c.loop-k.invariant.so_far
          (λ i lt. c.difference_word-bits.ensures i lt ∙ ap (λ (n : ℕ). captures t (64 * word + i) && are_opposite (good_at g (word / 8) (64 * (word % 8) + i) n) (now_at g c.args.scratch.now (word / 8) (64 * (word % 8) + i) n)) net_is);
    }
