use Rattle.design_bundle.specs.FourTexts.{four}
use Rattle.diagnosis.proofs.WordNames.{word_names}
use Rattle.diagnosis.proofs.texts.parts_of.Goals as goal

pub returns-clause-names : goal.returns-clause-names
returns-clause-names c =
    word_names (four c.args.profile c.args.netlist.now c.args.scan.now c.args.patterns.now c.args.neighbours.now) c.in_ok-parts.parts c.in_ok-parts.ensures.stands
