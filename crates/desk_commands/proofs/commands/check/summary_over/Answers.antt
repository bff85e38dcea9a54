use Rattle.std.proofs.lemmas.Result.{err_from_is_err_and}
use Rattle.desk_commands.proofs.commands.check.summary_over.Goals as goal

pub returns-in_err-summary_text-clause-told : goal.returns-in_err-summary_text-clause-told
returns-in_err-summary_text-clause-told c =
    let is = err_from_is_err_and c.from_residual.result c.from_residual.ensures.1 in
    rw (is.1, is.2) tt
