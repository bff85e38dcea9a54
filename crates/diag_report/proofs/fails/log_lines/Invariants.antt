use Rattle.diag_report.proofs.fails.log_lines.Given as goal

abbrev pub ghosts-fail_lines : goal.ghosts-fail_lines
ghosts-fail_lines a = record { name = a.blank.name; parts = a.blank.parts }
