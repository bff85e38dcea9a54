use Rattle.std.proofs.Common.{◌≡◌, take, length}
use Rattle.scan_model.specs.ScanTest.{cells_of}
use Rattle.diag_report.proofs.summary.cell_count.Given as goal

abbrev pub invariant-loop-h : goal.invariant-loop-h
invariant-loop-h l = l.count ≡ length (cells_of (take l.h l.chains))
