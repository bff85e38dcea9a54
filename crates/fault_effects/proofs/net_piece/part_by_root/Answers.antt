use Rattle.std.proofs.Common.{◌&&◌, rules}
use Rattle.lane_rows.specs.Lanes.{lane}
use Rattle.fault_effects.specs.FaultModel.{shown_in}
use Rattle.fault_effects.proofs.Effects.{in_lanes}
use Rattle.fault_effects.proofs.net_piece.part_by_root.Goals as goal

pub returns-then-eq-clause-part : goal.returns-then-eq-clause-part
returns-then-eq-clause-part g c =
    let o = c.args.work.now.observer.now in
    let m = g.O.Observer.model o in
    let b = g.O.Observer.block o in
    let at = c.args.at in
    let both = c.and-both.result in
    let flip = c.args.region.now.flip in
    let held : g.O.Observer.holds o flip.flip (shown_in m b at.root) = search rules in
    g.met.O.Observer.same o c.part.result (λ q j. shown_in m b at.root q j && lane both j) (λ q j. shown_in m b at.net q j && lane c.args.lanes j)
    (in_lanes m b (shown_in m b at.root) at.net at.lanes c.args.lanes both c.requires.at.through c.and-both.ensures)
    (c.part.ensures (shown_in m b at.root) held)
