use Rattle.std.proofs.Common.{◌∷◌, [], length, ap, ◌∙◌}
use Rattle.std.specs.Prelude.{codes}
use Rattle.std.proofs.lemmas.Result.{on_ok_weaker}
use Rattle.scan_model.specs.declared.parts.Pairs.{Pairs}
use Rattle.scan_model.specs.ScanTest.{cells_of}
use Rattle.scan_model.specs.Universe.{universe}
use Rattle.diag_report.specs.Summary.{count_line}
use Rattle.report_lines.proofs.LineSteps.{none_added}
use Rattle.diag_report.proofs.SummarySteps.{count_added}
use Rattle.diag_report.proofs.summary.test_counts.Goals as goal

pub returns : goal.returns
returns c =
    let t = c.args.parts.now in
    let start = c.args.draft.now in
    let d1 = c.number_line.new.draft in
    let d2 = c.number_line-2.new.draft in
    let d3 = c.number_line-3.new.draft in
    let d4 = c.number_line-4.new.draft in
    let d5 = c.number_line-5.new.draft in
    let d6 = c.number_line-6.new.draft in
    let chains = count_line (codes "chains") (length t.chains) in
    let cells = count_line (codes "cells") (length (cells_of t.chains)) in
    let patterns = count_line (codes "patterns") (length t.patterns) in
    let pairs = count_line (codes "pairs") (length t.pairs.kept) in
    let left_out = count_line (codes "left-out") (length t.pairs.left_out) in
    let one = count_added [] (codes "chains") c.len.result (length t.chains) start start d1 (c.len.ensures ∙ ap length c.chains.ensures.value) (none_added start) c.in_ok-number_line.ensures in
    let two = count_added (chains ∷ []) (codes "cells") c.cell_count.result (length (cells_of t.chains)) start d1 d2 c.cell_count.ensures one c.in_ok-number_line-2.ensures in
    let three = count_added (chains ∷ cells ∷ []) (codes "patterns") c.len-2.result (length t.patterns) start d2 d3 (c.len-2.ensures ∙ ap length c.patterns.ensures.value) two c.in_ok-number_line-3.ensures in
    let four = count_added (chains ∷ cells ∷ patterns ∷ []) (codes "pairs") c.len-3.result (length t.pairs.kept) start d3 d4 (c.len-3.ensures ∙ ap (λ (p : Pairs). length p.kept) c.pairs-pairs.ensures.value) three c.in_ok-number_line-4.ensures in
    let five = count_added (chains ∷ cells ∷ patterns ∷ pairs ∷ []) (codes "left-out") c.len-4.result (length t.pairs.left_out) start d4 d5 (c.len-4.ensures ∙ ap (λ (p : Pairs). length p.left_out) c.pairs-pairs.ensures.value) four c.in_ok-number_line-5.ensures in
    on_ok_weaker c.number_line-6.result
    (λ last. count_added (chains ∷ cells ∷ patterns ∷ pairs ∷ left_out ∷ []) (codes "faults") c.from.result (length (universe t)) start d5 d6 (c.from.ensures ∙ c.universe_len.ensures) five last)
    c.number_line-6.ensures
