use Rattle.std.proofs.Common.{◌≤◌, length}
use Rattle.fault_effects.specs.Owners.{suspect_at}
use Rattle.fault_effects.specs.Shares.{Shares}
use Rattle.fault_effects.specs.Walks.{IsWalk, IsOfKind, IsFrom}
use Rattle.fault_effects.proofs.cell_shares.share_kind.Given as goal

abbrev pub invariant-loop-left : goal.invariant-loop-left
invariant-loop-left g l = record {
  walk : IsWalk l.work.parts.now l.work.good.now (g.O.Observer.model l.work.observer.now) (g.O.ChainObserver.sums l.work.observer.now) l.work.block l.kind l.scratch l.notes l.at;
  left_le : l.left ≤ length l.group;
  shares : Shares (g.O.Observer.means l.work.observer.now) (g.O.Observer.model l.work.observer.now) (g.O.Observer.block l.work.observer.now) l.work.suspects.now (λ i. IsFrom l.group l.left i × IsOfKind l.kind (suspect_at l.work.suspects.now i).fault) l.initial.shares l.shares;
}

abbrev pub decreases-loop-left : goal.decreases-loop-left
decreases-loop-left g l = l.left
