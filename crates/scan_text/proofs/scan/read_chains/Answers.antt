use Rattle.scan_text.proofs.scan.read_chains.Goals as goal

pub take_lines-requires-clause-after : goal.take_lines-requires-clause-after
take_lines-requires-clause-after c = c.new-chains.ensures c.args.nets.now
