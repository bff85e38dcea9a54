use Rattle.std.proofs.Common.{arith}
use Rattle.std.proofs.lemmas.List.Elements.{All-nil}
use Rattle.fault_effects.specs.declared.cached_flip.CachedFlip.{CachedFlip}
use Rattle.fault_effects.specs.FaultModel.{shown_in}
use Rattle.fault_effects.specs.CachedFlips.{IsCachedFlip}
use Rattle.fault_effects.proofs.Effects.{in_all}
use Rattle.fault_effects.proofs.LentFlips.{lent_again, kept_again}
use Rattle.fault_effects.proofs.region.begin.Goals as goal

pub keep-requires-clause-kept : goal.keep-requires-clause-kept
keep-requires-clause-kept g c =
    let o = c.args.work.now.observer.now in
    let Kept = λ (x : CachedFlip g.row.O-Flip.Denot). IsCachedFlip (g.O.Observer.holds o) (g.O.Observer.model o) (g.O.Observer.block o) x in
    let back = c.put_back.ensures in
    lent_again Kept c.args.kept.now.flips.items c.put_back.new.self.flips.items c.args.region.now.flip c.put_back.new.flip c.requires.kept.each c.requires.region.flip
    back.kept back.lent c.lend.new.flip c.lend.ensures.lent

pub returns-clause-kept : goal.returns-clause-kept
returns-clause-kept g c =
    let o = c.args.work.now.observer.now in
    let Kept = λ (x : CachedFlip g.row.O-Flip.Denot). IsCachedFlip (g.O.Observer.holds o) (g.O.Observer.model o) (g.O.Observer.block o) x in
    let back = c.put_back.ensures in
    record {
      some = omega (arith, c.requires.kept.some, back.len, c.lend.ensures.len);
      each = kept_again Kept c.args.kept.now.flips.items c.put_back.new.self.flips.items c.args.region.now.flip c.put_back.new.flip c.requires.kept.each c.requires.region.flip
          back.kept back.lent c.lend.new.self.flips.items c.lend.ensures.kept;
    }

pub returns-clause-region : goal.returns-clause-region
returns-clause-region g c =
    let o = c.args.work.now.observer.now in
    let m = g.O.Observer.model o in
    let b = g.O.Observer.block o in
    record {
      region = record {
        root = shown_in m b c.args.net;
        held = c.in_ok-keep.ensures.flip;
        flip = c.in_ok-keep.ensures.kept;
        members = rw c.clear.ensures.items (All-nil _);
        path = c.requires.region.path;
      };
      shows = in_all m b c.args.net c.all.result c.all.ensures;
    }
