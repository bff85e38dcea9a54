use Rattle.std.specs.Prelude.{length}
use Rattle.fault_effects.specs.CachedFlips.{AreKeptFlips}
use Rattle.fault_effects.specs.Regions.{IsRooted}
use Rattle.fault_effects.specs.Shares.{Shares, IsAmong}
use Rattle.fault_effects.proofs.net_piece.share_group.Given as goal

abbrev pub invariant-loop-item : goal.invariant-loop-item
invariant-loop-item g l = record {
  scratch : g.O.Observer.clean l.work.observer.now l.scratch;
  kept : AreKeptFlips (g.O.Observer.holds l.work.observer.now) (g.O.Observer.model l.work.observer.now) (g.O.Observer.block l.work.observer.now) l.kept;
  other : IsRooted (g.O.Observer.model l.work.observer.now) (g.O.Observer.block l.work.observer.now) (length l.work.parts.now.netlist.nets) l.other;
  shares : Shares (g.O.Observer.means l.work.observer.now) (g.O.Observer.model l.work.observer.now) (g.O.Observer.block l.work.observer.now) l.work.suspects.now (IsAmong l.group l.item-index) l.initial.shares l.shares;
}
