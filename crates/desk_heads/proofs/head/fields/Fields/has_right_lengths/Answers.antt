use Rattle.std.proofs.Common.{sym, ◌∙◌, codes}
use Rattle.desk_heads.specs.Fields.{named}
use Rattle.desk_heads.proofs.FieldSteps.{right_lengths}
use Rattle.desk_heads.proofs.head.fields.Fields.has_right_lengths.Goals as goal

pub returns-then-is_length : goal.returns-then-is_length
returns-then-is_length c =
    c.are_all.ensures ∙ right_lengths c.in-Some.length.now (named (codes "Content-Length") c.args.self.now) c.in-Some.ensures (sym c.if-is_length.ensures)
