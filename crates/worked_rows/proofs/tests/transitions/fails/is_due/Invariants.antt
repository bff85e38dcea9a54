use Rattle.worked_rows.proofs.tests.transitions.fails.is_due.Given as goal

abbrev pub ghosts-fails : goal.ghosts-fails
ghosts-fails g a = record { name = a.blank.name; parts = a.blank.parts }
