use Rattle.std.proofs.Common.{◌≡◌, ℕ, List, [], ◌∷◌, ◌++◌, length, codes, ap, ◌∙◌}
use Rattle.std.proofs.lemmas.Result.{on_ok_weaker}
use Rattle.hex.specs.Hex.{encode_lower}
use Rattle.sha2.specs.Sha256.{sha256}
use Rattle.scan_model.specs.declared.logs.Scored.{Scored}
use Rattle.scan_model.specs.ReportText.{concatenated, line}
use Rattle.diag_report.specs.Summary.{count_line}
use Rattle.made_designs.specs.Demo.{rank_lines}
use Rattle.made_designs.proofs.demo.add_ranking.Goals as goal

pub returns : goal.returns
returns c =
    let rows = c.args.diagnosis.now.candidates in
    let digest : List ℕ → List ℕ = λ report. line (codes "digest" ∷ encode_lower (sha256 report) ∷ []) in
    let counted = c.in_ok-add_count.ensures ∙ ap (λ (n : ℕ). c.args.text.now ++ count_line (codes "candidates") n) c.len.ensures in
    let ranked =
    c.in_ok-add_rank.ensures ∙ ap (λ (rs : List Scored). c.add_count.new.text ++ concatenated (rank_lines rs c.args.place)) c.as_slice.ensures
    ∙ ap (λ (t : List ℕ). t ++ concatenated (rank_lines rows c.args.place)) counted in
    on_ok_weaker c.add_digest.result
    (λ signed. signed ∙ ap (λ (r : List ℕ). c.add_rank.new.text ++ digest r) c.bytes.ensures ∙ ap (λ (t : List ℕ). t ++ digest (concatenated c.args.diagnosis.now.report)) ranked)
    c.add_digest.ensures
