use Rattle.std.proofs.Common.{◌<◌, arith, sym, ◌∙◌}
use Rattle.text_parts.proofs.FirstWord.{word_len, first_word_is, no_word, moved}
use Rattle.text_parts.proofs.words.first_word.Goals as goal

pub returns-then-end-eq0 : goal.returns-then-end-eq0
returns-then-end-eq0 c = sym c.without_blanks-rest.ensures.same ∙ no_word c.without_blanks-rest.result.now c.without_blanks-rest.ensures.first (sym c.word_end-end.ensures.place ∙ c.if-end-eq0.true)

pub returns : goal.returns
returns c =
    let rest = c.without_blanks-rest.result.now in
    let some : 0 < word_len rest = omega (arith, c.word_end-end.ensures.place, c.if-end-eq0.false) in
    rw (c.split_at.ensures.front, c.split_at.ensures.back, c.word_end-end.ensures.place)
    (moved c.args.line.now rest _ _ c.without_blanks-rest.ensures.same c.without_blanks-rest.ensures.within (first_word_is rest some))
