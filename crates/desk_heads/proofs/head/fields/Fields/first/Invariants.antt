use Rattle.std.proofs.Common.{◌≡◌}
use Rattle.std.specs.List.{slice_get}
use Rattle.desk_heads.specs.Fields.{named}
use Rattle.desk_heads.proofs.FieldSteps.{values_from}
use Rattle.desk_heads.proofs.head.fields.Fields.first.Given as goal

abbrev pub invariant-loop-span : goal.invariant-loop-span
invariant-loop-span l = slice_get (values_from l.name l.self-inside.head.now l.span-items l.span-index) 0 ≡ slice_get (named l.name l.self) 0
