use Rattle.desk_commands.proofs.CaseLogs.{text_taken}
use Rattle.desk_commands.proofs.die.SimulatedDieDieLogs.add_text.Goals as goal

pub returns-clause-added : goal.returns-clause-added
returns-clause-added g c = text_taken c.in_ok-add.field-0 c.args.text c.args.self.now c.add.new.self.logs c.in_ok-add.ensures.added
