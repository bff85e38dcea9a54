use Rattle.std.proofs.Common.{◌≡◌, codes}
use Rattle.std.specs.List.{list_any}
use Rattle.std.specs.Str.{str_eq_ignore_ascii_case}
use Rattle.desk_heads.specs.Fields.{named}
use Rattle.desk_heads.proofs.FieldSteps.{values_from}
use Rattle.desk_heads.proofs.head.fields.Fields.expects_interim.Given as goal

abbrev pub invariant-loop-span : goal.invariant-loop-span
invariant-loop-span l =
    list_any (λ value. str_eq_ignore_ascii_case value (codes "100-continue")) (values_from (codes "Expect") l.self-inside.head.now l.span-items l.span-index)
    ≡ list_any (λ value. str_eq_ignore_ascii_case value (codes "100-continue")) (named (codes "Expect") l.self)
