use Rattle.std.proofs.Common.{◌≡◌, ◌∷◌, ◌++◌, [], ◌∙◌}
use Rattle.std.specs.Prelude.{codes, decimal}
use Rattle.scan_model.specs.ReportText.{spaced}
use Rattle.report_lines.specs.ScoreWords.{score_words}
use Rattle.fault_universe.proofs.SpacedWords.{words_more}
use Rattle.report_lines.proofs.LineSteps.{line_ended}
use Rattle.report_lines.proofs.lines.candidate_line.Goals as goal

pub returns : goal.returns
returns g c =
    let row = c.args.row.now in
    let fault = (g.N.ReportNames.form c.args.names.now).fault row.place in
    let words = score_words c.args.rank row ++ fault in
    let rest = decimal c.args.rank ∷ codes "fault" ∷ decimal row.place ∷ codes "tfsf" ∷ decimal row.counts.tfsf ∷ codes "tfsp" ∷ decimal row.counts.tfsp ∷ codes "tpsf" ∷ decimal row.counts.tpsf ∷ [] in
    let written : c.push_place.new.line ≡ c.args.draft.now.text ++ spaced words =
    c.in_ok-push_place.ensures ∙ rw c.in_ok-push_scores.ensures (words_more c.args.draft.now.text (codes "candidate") rest fault) in
    line_ended c.end_line.result c.args.draft.now c.end_line.new.draft c.push_place.new.line (spaced words) written c.end_line.ensures.text c.end_line.ensures.ends
