use Rattle.std.proofs.Common.{◌≡◌, ◌∙◌, ◌<◌, ◌&&◌, true, length, get_or, sym, ap, subst, arith}
use Rattle.std.specs.List.{list_any}
use Rattle.std.proofs.lemmas.Bool.{and_from}
use Rattle.std.proofs.lemmas.List.{length-map}
use Rattle.scan_model.specs.Netlist.{Netlist, net_numbers}
use Rattle.scan_model.specs.Cone.{in_fan_in}
use Rattle.scan_model.specs.Marks.{is_marked}
use Rattle.scan_model.specs.ScanTest.{points_of, point_at}
use Rattle.scan_model.specs.Suspect.{observed_net}
use Rattle.scan_model.specs.Classes.{is_failing}
use Rattle.scan_model.proofs.counting.Shown.{point_at-IsPoint, observed_net-in_range}
use Rattle.packed_sim.specs.PackedParts.{observed_at}
use Rattle.explained_lanes.proofs.Ranges.{any_at}
use Rattle.two_frame.proofs.BlockReads.{net_read}
use Rattle.two_frame.proofs.FrameResponses.{fits_frames}
use Rattle.two_frame.proofs.FanInMarks.{class_is}
use Rattle.two_frame.proofs.reach.mark_reaching.Goals as goal

pub mark_failing-requires-clause-expected : goal.mark_failing-requires-clause-expected
mark_failing-requires-clause-expected c = fits_frames c.args.parts.now c.args.expected.now c.args.joined.now c.requires.expected c.requires.joined

pub mark_failing-requires-clause-nets : goal.mark_failing-requires-clause-nets
mark_failing-requires-clause-nets c = omega (arith, ap length c.observed.ensures, length-map (points_of c.args.parts.now) (observed_net c.args.parts.now), c.requires.joined.1)

pub mark_failing-requires-clause-inside : goal.mark_failing-requires-clause-inside
mark_failing-requires-clause-inside c = λ k k_lt. omega (arith, (net_read c.args.parts.now c.circuit-circuit.ensures.fits c.observed.result.now c.observed.ensures k k_lt).1, c.requires.marks)

pub returns : goal.returns
returns c = λ logs stands w k n w_lt k_lt n_lt failing inside.
    let t = c.args.parts.now in
    let sound = c.circuit-circuit.ensures.fits in
    let nets = c.observed.result.now in
    let seen = c.mark_failing.new.marks in
    let new = c.spread_back.new.marks in
    let o = observed_at t k in
    let in_nets : k < length nets = omega (arith, k_lt, ap length c.observed.ensures, length-map (points_of t) (observed_net t)) in
    let net : get_or nets k 0 ≡ o = (net_read t sound nets c.observed.ensures k in_nets).0 in
    let marked : is_marked seen o ≡ true =
    ap (is_marked seen) (sym net)
    ∙ c.mark_failing.ensures logs stands w k (omega (arith, k_lt, c.requires.joined.1)) (omega (arith, w_lt, c.requires.joined.0)) (ap is_failing (class_is t logs c.args.expected.now w k c.requires.expected w_lt) ∙ failing) in
    let swept = subst (λ (x : Netlist). n < length x.nets → is_marked new n ≡ list_any (λ m. is_marked seen m && in_fan_in x n m) (net_numbers x)) c.circuit-circuit.ensures.value (c.spread_back.ensures n) n_lt in
    swept ∙ any_at (λ m. is_marked seen m && in_fan_in t.netlist n m) (length t.netlist.nets) o (observed_net-in_range t sound (point_at t k) (point_at-IsPoint t sound k k_lt)) (and_from (is_marked seen o) (in_fan_in t.netlist n o) marked inside)
