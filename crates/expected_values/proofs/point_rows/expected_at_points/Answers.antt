use Rattle.std.proofs.Common.{◌∙◌, length, sym, ap, arith}
use Rattle.scan_model.proofs.ExpectedRows.{length-expected_rows, expected_points}
use Rattle.expected_values.proofs.point_rows.expected_at_points.Goals as goal

pub expected_of-requires-clause-patterns : goal.expected_of-requires-clause-patterns
expected_of-requires-clause-patterns c = length-expected_rows c.args.parts.now ∙ sym (c.len-patterns.ensures ∙ ap length c.patterns.ensures.value)

pub expected_of-requires-clause-whole : goal.expected_of-requires-clause-whole
expected_of-requires-clause-whole c = λ k d lt. expected_points c.args.parts.now k d lt ∙ sym (c.len.ensures ∙ ap length c.points.ensures.value)
