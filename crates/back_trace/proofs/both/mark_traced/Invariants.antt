use Rattle.std.proofs.Common.{ℕ}
use Rattle.lane_rows.specs.GoodRows.{AreBlockRows}
use Rattle.explained_lanes.specs.Fails.{IsWithin}
use Rattle.back_trace.specs.CommonPatterns.{AreBothMarked}
use Rattle.back_trace.proofs.both.mark_traced.Given as goal

abbrev pub invariant-loop-place : goal.invariant-loop-place
invariant-loop-place l = (b : ℕ) → AreBlockRows l.parts b l.block → IsWithin l.parts b l.ones.fails → IsWithin l.parts b l.others.fails → AreBothMarked l.parts b l.ones.fails l.others.fails l.place l.initial.marks l.marks
