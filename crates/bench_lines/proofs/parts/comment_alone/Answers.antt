use Rattle.std.proofs.Common.{◌∙◌, sym, ap}
use Rattle.bench_lines.specs.Parts.{is_over}
use Rattle.bench_lines.proofs.LineParts.{goes_on}
use Rattle.bench_lines.proofs.parts.comment_alone.Goals as goal

pub returns-then-first-ne35 : goal.returns-then-first-ne35
returns-then-first-ne35 c =
    ap is_over (sym c.without_blanks-rest.ensures.same)
    ∙ goes_on c.without_blanks-rest.result.now c.without_blanks-rest.ensures.first c.in-len1-up.len_at_least c.if-first-ne35.true
