use Rattle.fault_effects.proofs.readers.sole_reader.Goals as goal

pub gate_of-requires : goal.gate_of-requires
gate_of-requires c = (c.requires.reads.once c.args.net c.in-Once.pin c.in-Once.is).there
