use Rattle.std.proofs.Common.{◌∙◌, sym}
use Rattle.bench_lines.proofs.LineParts.{past_blank}
use Rattle.bench_lines.proofs.parts.without_blanks.Goals as goal

pub loop-rest-preserved : goal.loop-rest-preserved
loop-rest-preserved c =
    let past = past_blank c.args.line.now c.loop-rest.rest.now c.in-len1-up.len_at_least (sym c.is_blank.ensures ∙ c.if-not-is_blank.false) c.loop-rest.invariant.same c.loop-rest.invariant.refused c.loop-rest.invariant.within in
    record { same = past.0; refused = past.1; within = past.2 }
