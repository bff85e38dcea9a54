use Rattle.std.proofs.Common.{◌∙◌, ap, refl}
use Rattle.clap.specs.Words.{first_of, found_of, rows_of}
use Rattle.clap.proofs.WalkLemmas.{first_value-rows}
use Rattle.command_words.proofs.Taken.{text_given}
use Rattle.command_words.proofs.invocation.word_in.Goals as goal

pub returns : goal.returns
returns c =
    let found = c.get_str.ensures ∙ first_value-rows (found_of c.args.matches.now) _ ∙ ap (λ name. first_of name (rows_of (found_of c.args.matches.now))) c.name.ensures in
    rw c.unwrap_or.ensures (text_given c.get_str.result _ _ refl found)
