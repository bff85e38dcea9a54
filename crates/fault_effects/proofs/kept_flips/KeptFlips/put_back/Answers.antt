use Rattle.fault_effects.proofs.LentFlips.{all_there}
use Rattle.fault_effects.proofs.kept_flips.KeptFlips.put_back.Goals as goal

pub returns-in_default-clause-kept : goal.returns-in_default-clause-kept
returns-in_default-clause-kept g c = all_there c.args.flip.now c.args.self.now.flips.items
