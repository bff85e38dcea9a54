use Rattle.std.proofs.Common.{◌≡◌, codes}
use Rattle.std.specs.List.{list_any}
use Rattle.desk_heads.specs.Heads.{names_close}
use Rattle.desk_heads.specs.Fields.{named}
use Rattle.desk_heads.proofs.FieldSteps.{values_from}
use Rattle.desk_heads.proofs.head.fields.Fields.has_close.Given as goal

abbrev pub invariant-loop-span : goal.invariant-loop-span
invariant-loop-span l = list_any names_close (values_from (codes "Connection") l.self-inside.head.now l.span-items l.span-index) ≡ list_any names_close (named (codes "Connection") l.self)
