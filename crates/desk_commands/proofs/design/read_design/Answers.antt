use Rattle.std.proofs.Common.{refl}
use Rattle.desk_commands.specs.FileReadings.{files_source}
use Rattle.command_words.specs.CommandViews.{shown_files}
use Rattle.desk_commands.proofs.design.read_design.Goals as goal

pub returns-clause-told : goal.returns-clause-told
returns-clause-told g c = λ held e. c.read_from.ensures.told (files_source held (shown_files c.args.files.now)) (held, e, refl)
