-- What `loc` and `compact` come to.
use Rattle.std.specs.Prelude.{ℕ, List, []}
use Rattle.desk_outside.specs.declared.shelf.File.{File}
use Rattle.scan_model.specs.declared.parts.Chain.{Chain}
use Rattle.scan_model.specs.declared.parts.Pairs.{Pairs}
use Rattle.scan_model.specs.Netlist.{Netlist}
use Rattle.scan_model.specs.ScanTest.{ScanTest, scan_test}
use Rattle.scan_model.specs.NetlistText.{netlist_reading}
use Rattle.scan_model.specs.ScanText.{scan_reading}
use Rattle.scan_model.specs.PatternText.{pattern_reading}
use Rattle.scan_model.specs.LogText.{log_frame}
use Rattle.scan_model.specs.DieReport.{different}
use Rattle.two_frame.specs.TwoFrame.{launch_frame, frame_report}
use Rattle.compact_points.specs.Channels.{Compactor}
use Rattle.chain_compactor.specs.ChannelText.{channel_reading}
use Rattle.chain_compactor.specs.CompactLog.{compact_frame}
use Rattle.chain_compactor.specs.CompactReport.{compact_report}
use Rattle.diagnosis.specs.Texts.{value, and_then}
use Rattle.command_words.specs.Invocations.{DesignNames, Request}
use Rattle.desk_commands.specs.FileReadings.{Reading, file_reading}
use Rattle.desk_commands.specs.Work.{design_reading, logs_report}
use Rattle.desk_commands.specs.Logs.{read_logs}

-- no neighbours
abbrev pub no_pairs : Pairs
no_pairs = record { kept = []; left_out = [] }

module _ (files : List File) (names : DesignNames) where
  -- the scan test of a circuit and its chains, after its two-frame patterns
  abbrev pub over_chains : Netlist → List Chain → Reading ScanTest
  over_chains c chains =
      and_then (file_reading files (pattern_reading (launch_frame c chains)) names.patterns) (λ patterns. value (scan_test names.profile c chains patterns no_pairs))

  -- the scan test of a circuit, after its chains and its patterns
  abbrev pub over_circuit : Netlist → Reading ScanTest
  over_circuit c = and_then (file_reading files (scan_reading c.nets) names.scan) (over_chains c)

  -- the scan test of the three files, each read and judged before the next is read
  abbrev pub launch_reading : Reading ScanTest
  launch_reading = and_then (file_reading files netlist_reading names.netlist) over_circuit

module _ (files : List File) (r : Request) where
  -- the report of the logs on transition faults, over a scan test
  abbrev pub with_launches : ScanTest → Reading (List ℕ)
  with_launches t =
      let frame = log_frame t r.design r.die in
      logs_report files frame r.logs (λ texts. frame_report t r.design r.die (read_logs frame (different texts)))

  -- the report of the files of a request on transition faults
  abbrev pub loc_reading : Reading (List ℕ)
  loc_reading = and_then (launch_reading files r.files) with_launches

  -- the report of the logs of a compactor
  abbrev pub with_compactor : ScanTest → Compactor → Reading (List ℕ)
  with_compactor t c =
      let frame = compact_frame t c r.design r.die in
      logs_report files frame r.logs (λ texts. compact_report t c r.design r.die (read_logs frame (different texts)))

  -- that report, after the channels of the compactor
  abbrev pub with_channels : ScanTest → Reading (List ℕ)
  with_channels t = and_then (file_reading files (channel_reading t) r.channels) (with_compactor t)

  -- the report of the files of a request behind a compactor
  abbrev pub compact_reading : Reading (List ℕ)
  compact_reading = and_then (design_reading files r.files) (λ d. with_channels d.test)
