-- The report of a die that a tester saw through a compactor.
use Rattle.std.specs.Prelude.{ℕ, List, [], ◌∷◌, length, decimal, codes, slice_index_or}
use Rattle.scan_model.specs.declared.parts.Point.{Point}
use Rattle.scan_model.specs.declared.parts.Point.TheVariants.{Output, Cell}
use Rattle.scan_model.specs.declared.logs.Bit.{Bit}
use Rattle.scan_model.specs.declared.logs.BitClass.{BitClass}
use Rattle.scan_model.specs.declared.logs.LogFacts.{LogFacts}
use Rattle.scan_model.specs.declared.logs.Scored.{Scored}
use Rattle.scan_model.specs.ScanTest.{ScanTest}
use Rattle.scan_model.specs.Universe.{universe}
use Rattle.scan_model.specs.Ranking.{ranked}
use Rattle.scan_model.specs.ReportText.{ReportForm, point_words, fault_words, no_fault, layout_with, concatenated}
use Rattle.fail_logs.specs.FrameFacts.{point_among}
use Rattle.compact_points.specs.Channels.{Compactor, channel_at}
use Rattle.chain_compactor.specs.CompactMatches.{compact_bits, compact_class, compact_candidates}

-- the words of a compact point: those of an output, or the channel and the cycle
abbrev pub shown_words : ScanTest → Compactor → Point → List (List ℕ)
shown_words t c (Output k) = point_words t (Output k)
shown_words t c (Cell x u) = codes "chan" ∷ (channel_at c.channels x).name ∷ decimal u ∷ []

abbrev pub compact_form : ScanTest → Compactor → ReportForm
compact_form t c = record {
  title = codes "COMPACT REPORT";
  point = λ q. shown_words t c (point_among c.points q);
  fault = λ place. fault_words t (slice_index_or (universe t) place no_fault);
}

abbrev pub compact_layout : ScanTest → Compactor → List ℕ → List ℕ → ℕ → (Bit → BitClass) → List Scored → List (List ℕ)
compact_layout t c design die count classes rows = layout_with (compact_form t c) (compact_bits t c) design die count classes rows

-- the report over all modelled faults: those that explain a failing bit, in ranking order
abbrev pub compact_report : ScanTest → Compactor → List ℕ → List ℕ → List LogFacts → List ℕ
compact_report t c design die logs = concatenated (compact_layout t c design die (length logs) (compact_class t c logs) (ranked (compact_candidates t c logs)))
