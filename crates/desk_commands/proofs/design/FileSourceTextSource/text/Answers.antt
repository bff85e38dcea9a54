use Rattle.desk_commands.proofs.FilePlaces.{design_had}
use Rattle.desk_commands.proofs.design.FileSourceTextSource.text.Goals as goal

pub returns-clause-had : goal.returns-clause-had
returns-clause-had g c = λ source tells.
    design_had c.args.self.now c.args.part _ source tells c.name_of.result.now c.name_of.ensures c.read_text.result c.read_text.ensures.text c.read_text.ensures.within c.read_text.ensures.stops
