use Rattle.std.specs.Prelude.{length}
use Rattle.fault_effects.specs.CachedFlips.{AreKeptFlips}
use Rattle.fault_effects.specs.Regions.{IsRegion}
use Rattle.fault_effects.specs.Owners.{owner, suspect_at}
use Rattle.fault_effects.specs.Shares.{Shares, IsAmong}
use Rattle.fault_effects.proofs.net_piece.share_nets.Given as goal

abbrev pub invariant-loop-net : goal.invariant-loop-net
invariant-loop-net g l = record {
  scratch : g.O.Observer.clean l.work.observer.now l.scratch;
  kept : AreKeptFlips (g.O.Observer.holds l.work.observer.now) (g.O.Observer.model l.work.observer.now) (g.O.Observer.block l.work.observer.now) l.kept;
  region : IsRegion (g.O.Observer.holds l.work.observer.now) (g.O.Observer.model l.work.observer.now) (g.O.Observer.block l.work.observer.now) (length l.work.parts.now.netlist.nets) l.region;
  shares : Shares (g.O.Observer.means l.work.observer.now) (g.O.Observer.model l.work.observer.now) (g.O.Observer.block l.work.observer.now) l.work.suspects.now (λ i. IsAmong l.nets l.net-index (owner l.work.parts.now (suspect_at l.work.suspects.now i).fault)) l.initial.shares l.shares;
}
