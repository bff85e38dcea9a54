use Rattle.std.proofs.Common.{◌≡◌, ◌∙◌, ◌<◌, ℕ, List, length, sym, ap, ap₂, subst, arith}
use Rattle.std.specs.Arc.{arc_value}
use Rattle.scan_model.specs.ScanTest.{ScanTest}
use Rattle.scan_model.specs.Universe.{universe}
use Rattle.diag_report.specs.PredictedLog.{predicted_log, fault_of}
use Rattle.diagnosis.specs.Designs.{DesignFacts, IsDesign}
use Rattle.desk_replies.specs.declared.status.Status.TheVariants as status
use Rattle.desk_replies.specs.Answers.{plain}
use Rattle.desk_replies.specs.Responses.{response_of}
use Rattle.desk_answers.specs.RouteAnswers.{predicted}
use Rattle.desk_answers.proofs.Gets.{fails_got}
use Rattle.desk_answers.proofs.answers.designs.get_fails.Goals as goal

pub returns-clause-made : goal.returns-clause-made
returns-clause-made g c =
    let seen = (g.S.SeatAt.facts c.look_design.new.self c.args.desk.now).seen in
    let d : DesignFacts = arc_value c.in-Ok.design in
    let is : IsDesign d = subst IsDesign c.deref.ensures c.parts.ensures.design in
    let counted : c.parts.result.now ≡ d.test = c.parts.ensures.value ∙ ap (λ (d : DesignFacts). d.test) c.deref.ensures in
    let test : c.parts-2.result.now ≡ d.test = c.parts-2.ensures.value ∙ ap (λ (d : DesignFacts). d.test) c.deref-2.ensures in
    let name : c.name.result.now ≡ d.name = c.name.ensures.value ∙ ap (λ (d : DesignFacts). d.name) c.deref-3.ensures in
    let below : c.args.fault < length (universe d.test) = omega (arith, c.if-fault-faults.false, c.universe_len-faults.ensures, ap (λ (t : ScanTest). length (universe t)) counted) in
    c.plain.ensures
    ∙ ap (λ (b : List ℕ). response_of (plain status.Ok b))
    (c.text.ensures ∙ c.in_ok-text.ensures.text ∙ ap₂ (λ (t : ScanTest) (n : List ℕ). predicted_log t n predicted (fault_of t c.args.fault)) test name)
    ∙ sym (ap response_of (fails_got seen predicted c.args.name.now c.args.fault d c.in-Ok.ensures.looked is c.in-Ok.ensures.name below))
