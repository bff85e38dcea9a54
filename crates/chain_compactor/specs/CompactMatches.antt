-- How the predictions of faults match what a tester saw through a compactor.
use Rattle.std.specs.Prelude.{Bool, List, length, Option, Some, None}
use Rattle.scan_model.specs.declared.values.Tri.{Tri}
use Rattle.scan_model.specs.declared.fault.Fault.{Fault}
use Rattle.scan_model.specs.declared.logs.Bit.{Bit}
use Rattle.scan_model.specs.declared.logs.BitClass.{BitClass}
use Rattle.scan_model.specs.declared.logs.LogFacts.{LogFacts}
use Rattle.scan_model.specs.declared.logs.Counts.{Counts}
use Rattle.scan_model.specs.declared.logs.Scored.{Scored}
use Rattle.scan_model.specs.Values.{are_opposite}
use Rattle.scan_model.specs.ChainShift.{value_at}
use Rattle.scan_model.specs.ScanTest.{ScanTest}
use Rattle.scan_model.specs.Coverage.{bits_over}
use Rattle.scan_model.specs.Classes.{class_with}
use Rattle.scan_model.specs.MatchCounts.{counts_by, candidates_by}
use Rattle.scan_model.specs.Universe.{universe}
use Rattle.compact_points.specs.Channels.{Compactor}
use Rattle.compact_points.specs.Compaction.{compact_response, compact_rows}

abbrev pub value_of_compact_bit : ScanTest → Compactor → Option Fault → Bit → Tri
value_of_compact_bit t c fault b = value_at (compact_response t c fault b.pattern) b.point

-- the expected value is definite and the fault gives the other definite value
abbrev pub predicts_compact_fail : ScanTest → Compactor → Fault → Bit → Bool
predicts_compact_fail t c f b = are_opposite (value_of_compact_bit t c None b) (value_of_compact_bit t c (Some f) b)

-- all bits, by pattern and then by compact point
abbrev pub compact_bits : ScanTest → Compactor → List Bit
compact_bits t c = bits_over (length t.patterns) (length c.points)

-- the class of a bit over the logs of a die
abbrev pub compact_class : ScanTest → Compactor → List LogFacts → Bit → BitClass
compact_class t c logs b = class_with (compact_rows t c) logs b

abbrev pub compact_counts_of : ScanTest → Compactor → List LogFacts → Fault → Counts
compact_counts_of t c logs f = counts_by (compact_bits t c) (compact_class t c logs) (predicts_compact_fail t c f)

-- the modelled faults that explain at least one failing bit, in the order of their places
abbrev pub compact_candidates : ScanTest → Compactor → List LogFacts → List Scored
compact_candidates t c logs = candidates_by (universe t) (compact_bits t c) (compact_class t c logs) (predicts_compact_fail t c)
