use Rattle.std.proofs.Common.{rules}
use Rattle.std.specs.Arc.{arc_value}
use Rattle.die_entries.proofs.SameViews.{is_log_as}
use Rattle.die_entries.proofs.ahead.add_text.Goals as goal

pub add-requires : goal.add-requires
add-requires c =
    is_log_as c.args.view.now.design c.design.result.now c.args.view.now.die c.die.result.now c.in-Ok.log (arc_value c.in_ok-new-in-Ok.field-0) c.design.ensures c.die.ensures (search rules) c.in-Ok.ensures.log
