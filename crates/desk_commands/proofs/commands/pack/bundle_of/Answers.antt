use Rattle.design_bundle.specs.Bundle.{bundle_text}
use Rattle.diagnosis.specs.Texts.{value}
use Rattle.diagnosis.proofs.Halting.{comes_after}
use Rattle.desk_commands.specs.Designs.{shown_design}
use Rattle.command_words.specs.CommandViews.{shown_files}
use Rattle.desk_commands.specs.Work.{design_reading}
use Rattle.desk_commands.specs.CommandStops.{halt_of}
use Rattle.desk_commands.proofs.commands.pack.bundle_of.Goals as goal

pub returns-clause-told : goal.returns-clause-told
returns-clause-told g c = λ held e.
    comes_after (design_reading held (shown_files c.args.files.now)) (λ d. value (bundle_text d.texts)) halt_of (λ x. x) (shown_design c.in_ok-design.design) c.bundle_over-bundle.result
    (c.in_ok-design.ensures.told held e) c.bundle_over-bundle.ensures.told
