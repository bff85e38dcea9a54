use Rattle.std.proofs.Common.{◌∙◌, sym, ap}
use Rattle.bench_lines.specs.Parts.{begins_sign}
use Rattle.bench_lines.proofs.LineParts.{moved, sign_first, other_sign}
use Rattle.bench_lines.proofs.parts.behind_sign.Goals as goal

pub returns-then-first-sign : goal.returns-then-first-sign
returns-then-first-sign c =
    ap (begins_sign c.args.sign) (sym c.without_blanks-rest.ensures.same)
    ∙ other_sign c.without_blanks-rest.result.now c.args.sign c.without_blanks-rest.ensures.first c.in-len1-up.len_at_least c.if-first-sign.true

pub returns : goal.returns
returns c =
    let rest = c.without_blanks-rest.result.now in
    moved c.args.line.now rest _ _ c.without_blanks-rest.ensures.same c.without_blanks-rest.ensures.refused c.without_blanks-rest.ensures.within
    (sign_first rest c.args.sign c.requires c.in-len1-up.len_at_least c.if-first-sign.false)
