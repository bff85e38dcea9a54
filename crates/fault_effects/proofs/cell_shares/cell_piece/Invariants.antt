use Rattle.fault_effects.proofs.cell_shares.cell_piece.Given as goal

abbrev pub ghosts-piece_in : goal.ghosts-piece_in
ghosts-piece_in g a = record { name = a.blank.name; parts = a.blank.parts }
