use Rattle.desk_commands.proofs.commands.compact.counts_of.Given as goal

abbrev pub ghosts-counts_in : goal.ghosts-counts_in
ghosts-counts_in a = record { name = a.blank.name; parts = a.blank.parts }
