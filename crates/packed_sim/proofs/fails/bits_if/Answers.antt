use Rattle.std.proofs.Common.{ℕ, Bool, ap, sym, ◌∙◌, eqb, ◌&&◌}
use Rattle.std.specs.Int.{bit_at}
use Rattle.std.proofs.lemmas.Nat.Bits.{bit_at-zero}
use Rattle.packed_sim.proofs.fails.bits_if.Goals as goal

pub returns-else-asked : goal.returns-else-asked
returns-else-asked c i lt = ap (λ (v : ℕ). eqb v 1) (bit_at-zero i) ∙ sym (ap (λ (b : Bool). b && eqb (bit_at c.args.bits i) 1) c.if-asked.false)
