use Rattle.std.proofs.Common.{ℕ, ◌<◌, length, refl, subst, arith}
use Rattle.fault_universe.proofs.StemPlaces.{length-stems_of}
use Rattle.two_frame.specs.ReachingFaults.{AreReachingTo}
use Rattle.two_frame.proofs.ReachingFaults.{stem_rises, stem_falls}
use Rattle.two_frame.proofs.suspects.push_stems.Goals as goal

pub bounds-marks-net : goal.bounds-marks-net
bounds-marks-net c = omega (arith, c.loop-net-test.true, c.stem_count-net-end.ensures.count, c.requires.marks, length-stems_of 0 (length c.args.parts.now.netlist.nets))

pub loop-net-preserved : goal.loop-net-preserved
loop-net-preserved c =
    let t = c.args.parts.now in
    let marks = c.args.marks.now in
    let n = c.loop-net.net in
    let within : n < length t.netlist.nets = omega (arith, c.loop-net-test.true, c.stem_count-net-end.ensures.count, length-stems_of 0 (length t.netlist.nets)) in
    let To : ℕ → Type 0 = λ k. AreReachingTo t marks k c.push_site.new.suspects in
    subst To (omega arith) (c.in_ok-push_site.ensures t marks (stem_rises t marks n _ within refl) (stem_falls t marks n _ within refl) c.loop-net.invariant)

pub returns : goal.returns
returns c =
    let t = c.args.parts.now in
    let To : ℕ → Type 0 = λ k. AreReachingTo t c.args.marks.now k c.loop-net.suspects in
    subst To (omega (arith, c.loop-net-test.false, c.loop-net.auto.net-end, c.stem_count-net-end.ensures.count, length-stems_of 0 (length t.netlist.nets))) c.loop-net.invariant
