use Rattle.std.proofs.Common.{◌≡◌, take}
use Rattle.std.specs.Arc.{arc_value}
use Rattle.die_entries.specs.Entries.{arc_values}
use Rattle.die_entries.proofs.views.view_of.Given as goal

abbrev pub invariant-loop-log : goal.invariant-loop-log
invariant-loop-log l = l.view ≡ record { design = arc_value l.fn.design; die = l.fn.die; logs = arc_values (take l.log-index l.logs) }
