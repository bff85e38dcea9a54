use Rattle.std.proofs.Common.{◌≡◌, map, replicate, ap, ◌∙◌}
use Rattle.scan_model.specs.Netlist.{Netlist, net_at}
use Rattle.scan_model.specs.ScanTest.{ScanTest, name_of}
use Rattle.scan_model.specs.LogText.{is_shift}
use Rattle.fail_logs.specs.Frames.{rows_view}
use Rattle.fail_logs.specs.Places.{places_in}
use Rattle.fail_logs.proofs.TestFrame.{frame_is_sound}
use Rattle.fail_logs.proofs.frame.Frame.make.Goals as goal

pub returns-clause-sound : goal.returns-clause-sound
returns-clause-sound c =
    let t : ScanTest = c.args.parts.now in
    let outputs : c.in_ok-outputs.outputs ≡ map (name_of t) t.netlist.outputs = c.in_ok-outputs.ensures ∙ ap (λ (n : Netlist). map (λ k. (net_at n k).name) n.outputs) c.circuit.ensures.value in
    let shifts : c.in_ok-shifts.shifts.items ≡ map is_shift t.patterns = c.in_ok-shifts.ensures ∙ ap (map is_shift) (c.as_slice.ensures ∙ c.patterns.ensures.value) in
    let places : rows_view c.in_ok-places.places.items ≡ places_in (map (λ n. replicate n 0) c.args.lengths.items) 0 c.args.points.now =
    c.in_ok-places.ensures ∙ ap (λ lengths. places_in (map (λ n. replicate n 0) lengths) 0 c.args.points.now) c.deref.ensures.value in
    rw (outputs, shifts, places)
    (frame_is_sound t c.patterns.ensures.fits c.args.form c.args.chains c.args.lengths.items c.args.points.now c.args.design.now c.args.die.now c.requires.names c.requires.lengths c.requires.few c.requires.points c.requires.few_points)
