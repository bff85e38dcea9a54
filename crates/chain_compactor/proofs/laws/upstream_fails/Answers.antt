use Rattle.chain_compactor.proofs.Members.{fail_has_one_behind, same_behind, silent_behind}
use Rattle.chain_compactor.proofs.laws.upstream_fails.Goals as goal

pub returns-clause-some : goal.returns-clause-some
returns-clause-some c f w q lt fails = fail_has_one_behind c.args.parts.now c.args.compact.now c.requires c.chains.ensures.fits f w q lt fails

pub returns-clause-same : goal.returns-clause-same
returns-clause-same c f g w q lt same = same_behind c.args.parts.now c.args.compact.now c.requires f g w q lt same

pub returns-clause-silent : goal.returns-clause-silent
returns-clause-silent c f w q lt same = silent_behind c.args.parts.now c.args.compact.now c.requires f w q lt same
