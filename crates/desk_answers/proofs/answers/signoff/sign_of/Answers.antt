use Rattle.desk_answers.proofs.answers.signoff.sign_of.Goals as goal

pub returns-in_default-clause-refused : goal.returns-in_default-clause-refused
returns-in_default-clause-refused c named body sign = c.in_default.ensures.none _ _ _ sign.parts
