use Rattle.fault_effects.proofs.KindShares.{four_kinds}
use Rattle.fault_effects.proofs.cell_shares.share_kinds.Goals as goal

pub returns-clause-shares : goal.returns-clause-shares
returns-clause-shares g c =
    let o = c.args.work.now.observer.now in
    four_kinds (g.O.Observer.means o) (g.O.Observer.model o) (g.O.Observer.block o) c.args.work.now.suspects.now c.args.group.now c.args.work.now.parts.now c.args.shares.now c.share_kind.new.shares c.share_kind-2.new.shares c.share_kind-3.new.shares c.share_kind-4.new.shares
    c.chains.ensures.fits c.requires.work.suspects c.requires.group c.in_ok-share_kind.ensures.shares c.in_ok-share_kind-2.ensures.shares c.in_ok-share_kind-3.ensures.shares c.in_ok-share_kind-4.ensures.shares
