-- The lines of a report are its text cut behind each line feed.
use Rattle.std.proofs.Common.{◌≡◌, length}
use Rattle.scan_model.specs.Lines.{pieces}
use Rattle.scan_model.specs.Universe.{universe}
use Rattle.scan_model.specs.Classes.{class}
use Rattle.scan_model.specs.MatchCounts.{candidates}
use Rattle.scan_model.specs.Ranking.{ranked}
use Rattle.scan_model.specs.DieReport.{logs_of_texts}
use Rattle.diag_report.specs.PredictedLog.{HasWordNames}
use Rattle.diag_report.proofs.CutLines.{layout_cut}
use Rattle.diagnosis.specs.Designs.{ViewFacts, IsView, texts_of, view_lines, view_report}
use Rattle.diagnosis.specs.Cases.{CaseFacts, IsCase, case_of, case_lines, case_report}
use Rattle.diagnosis.proofs.Views.{view_is_case}
use Rattle.diagnosis.proofs.WordNames.{bundle_word_names}

case_cut : (k : CaseFacts) → HasWordNames k.test → IsCase k → pieces (case_report k) ≡ case_lines k
case_cut k names case =
    let logs = logs_of_texts k.test k.design k.die (texts_of k.logs) in
    layout_cut k.test names (universe k.test) k.design k.die (length logs) (class k.test logs) (ranked (candidates k.test logs)) case.design case.die

pub view_cut : (v : ViewFacts) → IsView v → pieces (view_report v) ≡ view_lines v
view_cut v view = case_cut (case_of v) (bundle_word_names v.design.text v.design.test view.design.stands) (view_is_case v view)
