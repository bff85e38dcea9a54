use Rattle.std.proofs.Common.{◌==◌, ◌∙◌}
use Rattle.text_parts.proofs.Parts.{first_place}
use Rattle.text_parts.proofs.lines.place_of.Goals as goal

pub returns : goal.returns
returns c = c.unwrap_or.ensures ∙ first_place (λ b. b == c.args.byte) c.args.bytes.now c.memchr.result c.memchr.ensures
