use Rattle.std.proofs.Common.{◌∷◌, [], length}
use Rattle.std.specs.Prelude.{codes, decimal}
use Rattle.std.proofs.lemmas.Result.{on_ok_weaker}
use Rattle.scan_model.specs.ReportText.{line}
use Rattle.report_lines.specs.LineEnds.{AddsLines}
use Rattle.report_lines.proofs.LineSteps.{both_added}
use Rattle.diag_report.proofs.text.totals.Goals as goal

pub returns : goal.returns
returns c =
    let tally = c.args.tally.now in
    let failing = line (codes "failing" ∷ decimal tally.failing ∷ []) in
    let passing = line (codes "passing" ∷ decimal tally.passing ∷ []) in
    let conflicts = line (codes "conflicts" ∷ decimal (length tally.conflict) ∷ []) in
    let masked = line (codes "masked" ∷ decimal (length tally.masked) ∷ []) in
    let candidates = line (codes "candidates" ∷ decimal c.args.candidates ∷ []) in
    let start = c.args.draft.now in
    let d1 = c.number_line.new.draft in
    let d2 = c.number_line-2.new.draft in
    let d3 = c.number_line-3.new.draft in
    let d4 = c.number_line-4.new.draft in
    let d5 = c.number_line-5.new.draft in
    let third : AddsLines (conflicts ∷ []) d2 d3 = rw (← c.len.ensures) c.in_ok-number_line-3.ensures in
    let fourth : AddsLines (masked ∷ []) d3 d4 = rw (← c.len-2.ensures) c.in_ok-number_line-4.ensures in
    let two = both_added (failing ∷ []) (passing ∷ []) start d1 d2 c.in_ok-number_line.ensures c.in_ok-number_line-2.ensures in
    let four = both_added (failing ∷ passing ∷ []) (conflicts ∷ masked ∷ []) start d2 d4 two (both_added (conflicts ∷ []) (masked ∷ []) d2 d3 d4 third fourth) in
    on_ok_weaker c.number_line-5.result (λ last. both_added (failing ∷ passing ∷ conflicts ∷ masked ∷ []) (candidates ∷ []) start d4 d5 four last) c.number_line-5.ensures
