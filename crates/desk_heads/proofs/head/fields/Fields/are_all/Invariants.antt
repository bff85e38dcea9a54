use Rattle.std.proofs.Common.{◌≡◌}
use Rattle.std.specs.List.{list_all}
use Rattle.std.specs.Str.{bytes_eq}
use Rattle.desk_heads.specs.Fields.{named}
use Rattle.desk_heads.proofs.FieldSteps.{values_from}
use Rattle.desk_heads.proofs.head.fields.Fields.are_all.Given as goal

abbrev pub invariant-loop-span : goal.invariant-loop-span
invariant-loop-span l = list_all (bytes_eq l.value) (values_from l.name l.self-inside.head.now l.span-items l.span-index) ≡ list_all (bytes_eq l.value) (named l.name l.self)
