use Rattle.std.proofs.Common.{sym}
use Rattle.desk_answers.proofs.answers.answer.Goals as goal

pub answer_found-requires-clause-found : goal.answer_found-requires-clause-found
answer_found-requires-clause-found g c κs within = sym c.in_ok-found.ensures
