use Rattle.packed_sim.proofs.scratch.Scratch.set.Goals as goal

pub put-requires-clause-places : goal.put-requires-clause-places
put-requires-clause-places c = rw c.group.ensures c.requires.places

pub returns : goal.returns
returns c = c.put.ensures c.args.wiring.now.sinks c.group.ensures
