use Rattle.std.proofs.Common.{◌∙◌, ℕ, List, refl, sym, ap, true≢false}
use Rattle.desk_replies.specs.declared.status.Status.TheVariants as status
use Rattle.desk_replies.specs.Bodies.{unknown_line_body}
use Rattle.desk_replies.specs.Answers.{plain}
use Rattle.desk_replies.specs.Responses.{response_of}
use Rattle.desk_answers.proofs.Gets.{page_there, page_past}
use Rattle.desk_answers.proofs.answers.dies.page_at.Goals as goal

pub returns-in_ok-text-in-Ok : goal.returns-in_ok-text-in-Ok
returns-in_ok-text-in-Ok c =
    let range = c.in-Ok.ensures.there.0 refl in
    c.plain.ensures ∙ ap (λ (b : List ℕ). response_of (plain status.Ok b)) (c.text.ensures ∙ c.in_ok-text-in-Ok.ensures ∙ c.in-Ok.ensures.page)
    ∙ sym (ap response_of (page_there c.args.report.now c.args.line range.0 range.1))

pub returns-in-Err : goal.returns-in-Err
returns-in-Err c =
    c.short.ensures ∙ ap (λ (b : List ℕ). response_of (plain status.NotFound b)) (c.unknown_line_body.ensures ∙ ap unknown_line_body c.in-Err.ensures.past)
    ∙ sym (ap response_of (page_past c.args.report.now c.args.line (λ range. true≢false (sym (c.in-Err.ensures.there.1 range)))))
