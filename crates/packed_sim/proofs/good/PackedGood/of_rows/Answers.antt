use Rattle.packed_sim.proofs.good.PackedGood.of_rows.Goals as goal

pub returns-clause-built : goal.returns-clause-built
returns-clause-built c = c.linked.ensures.built c.args.parts.now c.requires c.in_ok-links.ensures
