use Rattle.std.proofs.Common.{◌≡◌, Ok, refl, ap, subst, ◌∙◌}
use Rattle.std.specs.Prelude.{IfOk}
use Rattle.scan_model.specs.LogText.{log_frame, log_reading}
use Rattle.diag_report.specs.PredictedLog.{HasWordNames, fault_of, predicted_facts, predicted_log}
use Rattle.diagnosis.specs.Cases.{CaseFacts}
use Rattle.diagnosis.proofs.Cases.{case_with, same_case}
use Rattle.diagnosis.proofs.case.Case.predicted.Goals as goal

pub returns-clause-text : goal.returns-clause-text
returns-clause-text c =
    let k = c.args.self.now in
    let Tells : CaseFacts → Type 0 = λ k. IfOk c.fails_text_over.result (λ text. text ≡ predicted_log k.test k.design k.die (fault_of k.test c.args.place)) in
    let same : case_with c.self.inside.parts c.as_slice.result.now c.as_slice-2.result.now k.logs ≡ k =
    same_case k c.self.inside.parts c.as_slice.result.now c.as_slice-2.result.now k.logs (ap (λ (k : CaseFacts). k.test) c.self.view_is)
    (c.as_slice.ensures ∙ ap (λ (k : CaseFacts). k.design) c.self.view_is) (c.as_slice-2.ensures ∙ ap (λ (k : CaseFacts). k.die) c.self.view_is) refl in
    subst Tells same c.fails_text_over.ensures.text

pub returns-clause-reading : goal.returns-clause-reading
returns-clause-reading c =
    let k = c.args.self.now in
    let Reads : CaseFacts → Type 0 = λ k. IfOk c.fails_text_over.result (λ text. HasWordNames k.test → log_reading (log_frame k.test k.design k.die) text ≡ Ok (predicted_facts k.test (fault_of k.test c.args.place))) in
    let same : case_with c.self.inside.parts c.as_slice.result.now c.as_slice-2.result.now k.logs ≡ k =
    same_case k c.self.inside.parts c.as_slice.result.now c.as_slice-2.result.now k.logs (ap (λ (k : CaseFacts). k.test) c.self.view_is)
    (c.as_slice.ensures ∙ ap (λ (k : CaseFacts). k.design) c.self.view_is) (c.as_slice-2.ensures ∙ ap (λ (k : CaseFacts). k.die) c.self.view_is) refl in
    subst Reads same c.fails_text_over.ensures.reading
