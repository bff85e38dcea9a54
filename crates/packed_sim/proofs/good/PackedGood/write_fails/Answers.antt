use Rattle.std.proofs.Common.{sym, subst}
use Rattle.scan_model.specs.declared.fault.Fault.{Fault}
use Rattle.packed_sim.specs.PackedParts.{AreFails}
use Rattle.packed_sim.proofs.good.PackedGood.write_fails.Goals as goal

pub returns-in-Stem-clause-fails : goal.returns-in-Stem-clause-fails
returns-in-Stem-clause-fails g c = subst (λ (f : Fault). AreFails c.args.parts.now f c.args.word c.stem_fails.new.out) (sym c.in-Stem.is) c.stem_fails.ensures.fails

pub returns-in-Branch-clause-fails : goal.returns-in-Branch-clause-fails
returns-in-Branch-clause-fails g c = subst (λ (f : Fault). AreFails c.args.parts.now f c.args.word c.branch_fails.new.out) (sym c.in-Branch.is) c.branch_fails.ensures.fails

pub returns-in-Bridge-clause-fails : goal.returns-in-Bridge-clause-fails
returns-in-Bridge-clause-fails g c = subst (λ (f : Fault). AreFails c.args.parts.now f c.args.word c.bridge_fails.new.out) (sym c.in-Bridge.is) c.bridge_fails.ensures.fails

pub returns-in-Cell-clause-fails : goal.returns-in-Cell-clause-fails
returns-in-Cell-clause-fails g c = subst (λ (f : Fault). AreFails c.args.parts.now f c.args.word c.cell_fails.new.out) (sym c.in-Cell.is) c.cell_fails.ensures.fails
