use Rattle.fault_effects.proofs.region.show.Goals as goal

pub climb-requires-clause-region : goal.climb-requires-clause-region
climb-requires-clause-region g c = record {
  root = c.requires.region.root;
  held = c.requires.region.held;
  flip = c.requires.region.flip;
  members = c.leave.ensures (g.O.Observer.model c.args.work.now.observer.now) (g.O.Observer.block c.args.work.now.observer.now) c.requires.region.root c.requires.region.members;
  path = c.requires.region.path;
}
