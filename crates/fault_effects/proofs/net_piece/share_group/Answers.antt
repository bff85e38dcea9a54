use Rattle.std.proofs.Common.{◌≡◌, ◌+◌, get_or}
use Rattle.fault_effects.specs.Shares.{IsAmong}
use Rattle.fault_effects.proofs.ShareLists.{shares_join, shares_push, among_more}
use Rattle.fault_effects.proofs.net_piece.share_group.Goals as goal

pub loop-item-preserved : goal.loop-item-preserved
loop-item-preserved g c =
    let o = c.args.work.now.observer.now in
    let means = g.O.Observer.means o in
    let m = g.O.Observer.model o in
    let b = g.O.Observer.block o in
    let suspects = c.args.work.now.suspects.now in
    let group = c.args.group.now in
    let i = c.loop-item.item-index in
    let item = get_or group i 0 in
    let own = c.requires.group i 0 c.loop-item-test.true in
    record {
      scratch = c.in_ok-part.ensures.scratch;
      kept = c.in_ok-part.ensures.kept;
      other = c.in_ok-part.ensures.other;
      shares = shares_join means m b suspects (IsAmong group i) (λ k. k ≡ item) (IsAmong group (i + 1)) c.args.shares.now c.loop-item.shares c.push.new.self c.loop-item.invariant.shares
          (shares_push means m b suspects c.loop-item.shares c.push.new.self item c.in_ok-part.part c.in_ok-push.ensures.ok own.within c.in_ok-part.ensures.part)
          (λ k lt among. among_more group i k among);
    }
