use Rattle.std.proofs.Common.{◌≡◌, ◌∙◌, ℕ, List, ap, subst}
use Rattle.std.specs.Arc.{arc_value}
use Rattle.sha2.specs.Sha256.{sha256}
use Rattle.desk_replies.specs.Bodies.{design_body}
use Rattle.desk_replies.specs.Responses.{PutAnswered}
use Rattle.diagnosis.specs.Designs.{DesignFacts}
use Rattle.desk_answers.proofs.Puts.{design_answered, design_unread}
use Rattle.desk_answers.proofs.answers.designs.put_design.Goals as goal

pub returns-in-Err-Text-clause-answered : goal.returns-in-Err-Text-clause-answered
returns-in-Err-Text-clause-answered g c =
    let s = g.S.SeatAt.facts c.args.seat.now c.args.desk.now in
    let e = c.in-Err-Text in
    let made = rw (e.section-is, e.fault-is) at c.unprocessable.ensures in
    design_unread s.limit c.args.name.now c.args.text.now e.field-0 e.section e.fault c.unprocessable.result s e.field-0-is e.ensures.fault made

pub returns-clause-answered : goal.returns-clause-answered
returns-clause-answered g c =
    let s = g.S.SeatAt.facts c.args.seat.now c.args.desk.now in
    let new = g.S.SeatAt.facts c.put_design.new.self c.args.desk.now in
    let read = c.in-Ok.design in
    let kept = arc_value c.in-Ok-shared.design in
    let same : kept ≡ read = c.in-Ok-shared.ensures in
    let named = ap (λ (d : DesignFacts). d.name) same ∙ c.in-Ok.ensures.name in
    let texted = ap (λ (d : DesignFacts). d.text) same ∙ c.in-Ok.ensures.text in
    let body : c.design_body-body.result ≡ design_body c.args.name.now (sha256 c.args.text.now) = c.design_body-body.ensures ∙ ap (design_body c.args.name.now) (c.digest.ensures ∙ ap sha256 c.in-Ok.ensures.text) in
    design_answered s.limit c.args.name.now c.args.text.now kept read.test c.put_design.result s new c.in-Ok.ensures.stands named texted c.put_design.ensures.changed c.put_response.result
    (subst (λ (b : List ℕ). PutAnswered (λ (n : ℕ). b) c.put_design.result c.put_response.result) body c.put_response.ensures)
