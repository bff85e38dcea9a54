-- What the logs of a view come to, for the names and the logs of a request.
use Rattle.std.proofs.Common.{◌≡◌, ◌∙◌, ℕ, List, ap}
use Rattle.desk_outside.specs.declared.shelf.File.{File}
use Rattle.scan_model.specs.ScanTest.{ScanTest}
use Rattle.scan_model.specs.LogText.{log_frame}
use Rattle.scan_model.specs.DieReport.{different}
use Rattle.two_frame.specs.TwoFrame.{frame_report}
use Rattle.compact_points.specs.Channels.{Compactor}
use Rattle.chain_compactor.specs.CompactLog.{compact_frame}
use Rattle.chain_compactor.specs.CompactReport.{compact_report}
use Rattle.command_words.specs.Invocations.{Request}
use Rattle.desk_commands.specs.FileReadings.{Reading}
use Rattle.desk_commands.specs.Work.{logs_report}
use Rattle.desk_commands.specs.Logs.{read_logs}
use Rattle.desk_commands.specs.Views.{with_compactor, with_launches}

module _ (files : List File) (r : Request) (t : ScanTest) where
  -- for a design and a die of these names, and logs of these
  abbrev launches : List ℕ → List ℕ → List (List ℕ) → Reading (List ℕ)
  launches design die names = logs_report files (log_frame t design die) names (λ texts. frame_report t design die (read_logs (log_frame t design die) (different texts)))

  abbrev compacted : Compactor → List ℕ → List ℕ → List (List ℕ) → Reading (List ℕ)
  compacted c design die names = logs_report files (compact_frame t c design die) names (λ texts. compact_report t c design die (read_logs (compact_frame t c design die) (different texts)))

  module _ (design die : List ℕ) (names : List (List ℕ)) (same_design : design ≡ r.design) (same_die : die ≡ r.die) (same_logs : names ≡ r.logs) where
    pub same_launches : launches design die names ≡ with_launches files r t
    same_launches = ap (λ d. launches d die names) same_design ∙ ap (λ d. launches r.design d names) same_die ∙ ap (launches r.design r.die) same_logs

    pub same_compactor : (c : Compactor) → compacted c design die names ≡ with_compactor files r t c
    same_compactor c = ap (λ d. compacted c d die names) same_design ∙ ap (λ d. compacted c r.design d names) same_die ∙ ap (compacted c r.design r.die) same_logs
