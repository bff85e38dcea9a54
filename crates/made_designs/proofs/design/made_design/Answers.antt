use Rattle.std.proofs.Common.{◌≡◌, ℕ, List, sym, subst}
use Rattle.design_bundle.specs.FourTexts.{four}
use Rattle.scan_model.specs.declared.fault.Profile.TheVariants.{One}
use Rattle.made_laws.specs.MadeNetlist.{made_netlist}
use Rattle.made_laws.specs.MadeScan.{made_scan}
use Rattle.made_laws.specs.MadePatterns.{made_patterns}
use Rattle.made_laws.specs.MadePairs.{made_pairs}
use Rattle.made_designs.specs.MadeTexts.{BreakNoRule}
use Rattle.made_designs.proofs.MadeReading.{made_legal}
use Rattle.made_designs.proofs.design.made_design.Goals as goal

-- four texts that are equal one by one
alike : (n s p b n' s' p' b' : List ℕ) → n ≡ n' → s ≡ s' → p ≡ p' → b ≡ b' → four One n s p b ≡ four One n' s' p' b'
alike n s p b n' s' p' b' netlists scans patterns neighbours = cc

texts_are : goal.returns-clause-texts
texts_are c =
    alike _ _ _ _ (made_netlist c.args.seed c.args.blocks) (made_scan c.args.blocks) (made_patterns c.args.seed c.args.blocks) (made_pairs c.args.blocks)
    (c.in_ok-netlist.ensures.text c.args.seed c.from_seed-draws.ensures) c.in_ok-scan.ensures
    (c.in_ok-patterns.ensures.text c.args.seed (c.in_ok-netlist.ensures.draws c.args.seed c.from_seed-draws.ensures)) c.in_ok-neighbours.ensures

pub returns-clause-texts : goal.returns-clause-texts
returns-clause-texts c = texts_are c

pub returns-clause-legal : goal.returns-clause-legal
returns-clause-legal c = λ some. subst BreakNoRule (sym (texts_are c)) (made_legal c.args.seed c.args.blocks some c.requires)
