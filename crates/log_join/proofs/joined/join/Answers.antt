use Rattle.std.proofs.Common.{◌∙◌}
use Rattle.log_join.proofs.Steps.{listed_inside}
use Rattle.log_join.proofs.joined.join.Goals as goal

pub copy_bits-requires-clause-from : goal.copy_bits-requires-clause-from
copy_bits-requires-clause-from c = rw c.as_slice-fails.ensures (listed_inside c.args.facts.now c.args.patterns c.args.points c.args.passed.now c.requires.facts c.requires.passed)

pub copy_bits-requires-clause-into : goal.copy_bits-requires-clause-into
copy_bits-requires-clause-into c = rw c.as_slice-fails.ensures (listed_inside c.args.facts.now c.args.patterns c.args.points c.args.failed.now c.requires.facts c.requires.failed)

pub copy_bits-requires-2-clause-from : goal.copy_bits-requires-2-clause-from
copy_bits-requires-2-clause-from c = rw c.as_slice-fails.ensures (listed_inside c.args.facts.now c.args.patterns c.args.points c.copy_bits.new.into c.requires.facts (c.copy_bits.auto.into ∙ c.requires.failed))

pub copy_bits-requires-2-clause-into : goal.copy_bits-requires-2-clause-into
copy_bits-requires-2-clause-into c = rw c.as_slice-fails.ensures (listed_inside c.args.facts.now c.args.patterns c.args.points c.cover.new.words c.requires.facts (c.cover.auto.words ∙ c.requires.passed))

pub set_listed-requires-clause-inside : goal.set_listed-requires-clause-inside
set_listed-requires-clause-inside c = rw c.as_slice-fails.ensures (listed_inside c.args.facts.now c.args.patterns c.args.points c.copy_bits.new.into c.requires.facts (c.copy_bits.auto.into ∙ c.requires.failed))
