use Rattle.std.proofs.Common.{◌≢◌, ◌∙◌, sym, arith, length}
use Rattle.std.specs.List.{position_or_len}
use Rattle.std.proofs.lemmas.List.{take_rest}
use Rattle.text_parts.proofs.Parts.{no_end, begins_with, is_line_feed}
use Rattle.text_parts.proofs.lines.first_line.Goals as goal

pub returns-then-end-bytes : goal.returns-then-end-bytes
returns-then-end-bytes c = no_end c.args.bytes.now (sym c.place_of-end.ensures ∙ c.if-end-bytes.true)

pub returns : goal.returns
returns c =
    let some : position_or_len is_line_feed c.args.bytes.now ≢ length c.args.bytes.now = omega (arith, c.place_of-end.ensures, c.if-end-bytes.false) in
    rw (c.without_return.ensures, take_rest, c.place_of-end.ensures) (begins_with c.args.bytes.now some)
