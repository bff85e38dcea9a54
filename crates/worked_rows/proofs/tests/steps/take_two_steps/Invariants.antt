use Rattle.worked_rows.proofs.tests.steps.take_two_steps.Given as goal

abbrev pub ghosts-counted : goal.ghosts-counted
ghosts-counted g a = record { name = a.blank.name; parts = a.blank.parts }
