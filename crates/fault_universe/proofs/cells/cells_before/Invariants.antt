use Rattle.std.proofs.Common.{◌≡◌, take, length}
use Rattle.scan_model.specs.ScanTest.{cells_of}
use Rattle.fault_universe.proofs.cells.cells_before.Given as goal

abbrev pub invariant-loop-h : goal.invariant-loop-h
invariant-loop-h l = l.before ≡ length (cells_of (take l.h l.chains))
