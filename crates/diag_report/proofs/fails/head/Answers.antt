use Rattle.std.proofs.Common.{◌∷◌, [], ◌-◌, ap, length, subst, ◌∙◌, ℕ, ◌≡◌}
use Rattle.std.specs.Prelude.{codes}
use Rattle.std.proofs.lemmas.Result.{on_ok_weaker}
use Rattle.scan_model.specs.ReportText.{line}
use Rattle.report_lines.specs.LineEnds.{AddsLines}
use Rattle.diag_report.specs.PredictedLog.{tested_words, last_pattern}
use Rattle.report_lines.proofs.LineSteps.{both_added}
use Rattle.diag_report.proofs.fails.head.Goals as goal

pub returns-clause-lines : goal.returns-clause-lines
returns-clause-lines c =
    let title = line (codes "FAILLOG" ∷ codes "1" ∷ []) in
    let die = line (codes "die" ∷ c.args.die.now ∷ []) in
    let design = line (codes "design" ∷ c.args.design.now ∷ []) in
    let start = c.args.draft.now in
    let d1 = c.name_line.new.draft in
    let d2 = c.name_line-2.new.draft in
    let d3 = c.name_line-3.new.draft in
    let d4 = c.tested_line.new.draft in
    let last : c.len.result - 1 ≡ last_pattern c.args.parts.now = ap (λ (n : ℕ). n - 1) (c.len.ensures ∙ ap length c.patterns.ensures.value) in
    let two = both_added (title ∷ []) (die ∷ []) start d1 d2 c.in_ok-name_line.ensures c.in_ok-name_line-2.ensures in
    let three = both_added (title ∷ die ∷ []) (design ∷ []) start d2 d3 two c.in_ok-name_line-3.ensures in
    on_ok_weaker c.tested_line.result
    (λ tested. both_added (title ∷ die ∷ design ∷ []) (line (tested_words (last_pattern c.args.parts.now)) ∷ []) start d3 d4 three (subst (λ (n : ℕ). AddsLines (line (tested_words n) ∷ []) d3 d4) last tested))
    c.tested_line.ensures
