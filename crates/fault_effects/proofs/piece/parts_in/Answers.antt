use Rattle.fault_effects.proofs.piece.parts_in.Goals as goal

pub returns-in-Ok : goal.returns-in-Ok
returns-in-Ok g c = rw (c.from_vec-shares.ensures, c.in_ok-with_capacity.ensures.items) at c.in-Ok.ensures
