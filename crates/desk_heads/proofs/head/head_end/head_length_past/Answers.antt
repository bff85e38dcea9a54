use Rattle.std.proofs.Common.{◌∙◌, Some, None}
use Rattle.desk_heads.proofs.HeadEnd.{from_start}
use Rattle.desk_heads.proofs.head.head_end.head_length_past.Goals as goal

pub returns-in_err-length-clause-length : goal.returns-in_err-length-clause-length
returns-in_err-length-clause-length c =
    c.from_residual.ensures ∙ from_start c.args.bytes.now c.args.sought c.saturating_sub-start.result None c.requires c.saturating_sub-start.ensures c.in_err-length.ensures.length

pub returns-clause-length : goal.returns-clause-length
returns-clause-length c =
    from_start c.args.bytes.now c.args.sought c.saturating_sub-start.result (Some c.in_ok-length.length) c.requires c.saturating_sub-start.ensures c.in_ok-length.ensures.length
