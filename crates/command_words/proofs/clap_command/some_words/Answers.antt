use Rattle.command_words.proofs.Assignment.{with_range}
use Rattle.command_words.proofs.clap_command.some_words.Goals as goal

pub returns-clause-rule : goal.returns-clause-rule
returns-clause-rule c = with_range c.one_word.result c.num_args.result _ _ c.num_args.ensures.0 c.num_args.ensures.1 c.one_word.ensures.rule
