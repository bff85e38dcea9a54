use Rattle.std.proofs.Common.{◌≡◌, ◌≤◌, ◌∙◌, sym, ap, arith}
use Rattle.std.specs.List.{prefix_len}
use Rattle.scan_model.specs.Words.{is_name_byte}
use Rattle.bench_lines.specs.Parts.{begins_name}
use Rattle.bench_lines.proofs.LineParts.{no_name, name_first, moved}
use Rattle.bench_lines.proofs.parts.front_name.Goals as goal

pub returns-then-len-eq0 : goal.returns-then-len-eq0
returns-then-len-eq0 c =
    ap begins_name (sym c.without_blanks-rest.ensures.same)
    ∙ no_name c.without_blanks-rest.result.now c.without_blanks-rest.ensures.first (sym c.name_len-len.ensures.value ∙ c.if-len-eq0.true)

pub returns : goal.returns
returns c =
    let rest = c.without_blanks-rest.result.now in
    let some : 1 ≤ prefix_len is_name_byte rest = omega (arith, c.name_len-len.ensures.value, c.if-len-eq0.false) in
    rw (c.split_at.ensures.front, c.split_at.ensures.back, c.name_len-len.ensures.value)
    (moved c.args.line.now rest _ _ c.without_blanks-rest.ensures.same c.without_blanks-rest.ensures.refused c.without_blanks-rest.ensures.within (name_first rest some))
