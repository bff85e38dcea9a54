use Rattle.std.proofs.Common.{◌&&◌}
use Rattle.lane_rows.specs.Lanes.{lane}
use Rattle.fault_effects.specs.Owners.{suspect_at, no_suspect}
use Rattle.fault_effects.specs.Shares.{suspect_fails}
use Rattle.fault_effects.proofs.Owned.{of_net, no_bridge}
use Rattle.fault_effects.proofs.Effects.{one_net_fails}
use Rattle.fault_effects.proofs.net_piece.suspect_part.Goals as goal

pub returns : goal.returns
returns g c =
    let o = c.args.work.now.observer.now in
    let t = c.args.work.now.parts.now in
    let work = c.requires.work in
    let m = g.O.Observer.model o in
    let b = g.O.Observer.block o in
    let suspects = c.args.work.now.suspects.now in
    let item = c.args.item in
    let own = c.requires.item in
    let s = suspect_at suspects item in
    let one = of_net t s.fault c.args.shown.now.net own.owned c.requires.net (no_bridge s.fault c.in_default.not-Bridge) in
    let shown = c.requires.shown in
    record {
      scratch = c.requires.scratch;
      kept = c.requires.kept;
      other = c.requires.other;
      part = g.met.O.Observer.same o c.part.result (λ q j. shown.root q j && lane c.and.result j) (suspect_fails m b suspects item)
          (one_net_fails t work.faults m work.model b s.fault (work.among item no_suspect own.within) one.logic c.args.shown.now.net shown.root c.args.shown.now.lanes c.mask-mask.result c.and.result one.touches shown.shows c.mask-mask.ensures c.and.ensures)
          (c.part.ensures shown.root shown.held);
    }
