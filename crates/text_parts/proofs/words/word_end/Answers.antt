use Rattle.std.proofs.Common.{not, ◌≡◌, ◌∙◌}
use Rattle.std.specs.List.{position_or_len}
use Rattle.std.proofs.lemmas.List.Sums.{prefix_len-le-length}
use Rattle.text_parts.specs.FirstWord.{is_word_end}
use Rattle.text_parts.proofs.Parts.{first_place}
use Rattle.text_parts.proofs.words.word_end.Goals as goal

pub returns : goal.returns
returns c =
    let place : c.unwrap_or.result ≡ position_or_len is_word_end c.args.line.now = c.unwrap_or.ensures ∙ first_place is_word_end c.args.line.now c.memchr3.result c.memchr3.ensures in
    record { place = place; within = rw place (prefix_len-le-length (λ b. not (is_word_end b)) c.args.line.now) }
