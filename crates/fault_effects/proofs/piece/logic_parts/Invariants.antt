use Rattle.fault_effects.proofs.piece.logic_parts.Given as goal

abbrev pub ghosts-parts_in : goal.ghosts-parts_in
ghosts-parts_in g a = record { name = a.blank.name; parts = a.blank.parts }
