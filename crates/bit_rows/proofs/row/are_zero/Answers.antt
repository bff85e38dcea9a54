use Rattle.std.proofs.lemmas.Bool.{eqb-true, eq-eqb}
use Rattle.bit_rows.proofs.LaneOps.{no_lane, no_bits, whole_chunk}
use Rattle.bit_rows.proofs.row.are_zero.Goals as goal

pub returns-clause-zero : goal.returns-clause-zero
returns-clause-zero c = λ e j. no_lane c.args.words.now j (rw (whole_chunk c.args.words.now 8 c.requires) at (eqb-true _ 0 e))

pub returns-clause-some : goal.returns-clause-some
returns-clause-some c = λ all. eq-eqb _ 0 (rw (whole_chunk c.args.words.now 8 c.requires)
    (no_bits c.args.words.now c.requires (λ k lt. (c.type_inv.words k).fits) all))
