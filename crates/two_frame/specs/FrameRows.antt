-- The rows of both frames of a test's patterns.
use Rattle.std.specs.Prelude.{◌≡◌, ℕ, ◌<◌, List, length, All, Bool, false, slice_index_or}
use Rattle.scan_model.specs.declared.fault.Fault.{Fault}
use Rattle.scan_model.specs.declared.parts.PatternKind.TheVariants.{Capture}
use Rattle.scan_model.specs.ScanTest.{ScanTest, points_of}
use Rattle.scan_model.specs.Coverage.{bit_of}
use Rattle.scan_model.specs.ReportText.{no_fault}
use Rattle.lane_rows.specs.GoodRows.{AreGoodRows}
use Rattle.lane_rows.specs.Stimuli.{AreRowsOf}
use Rattle.packed_sim.specs.PackedParts.{IsBuiltFor, IsScratchOf}
use Rattle.frame_rows.specs.SecondRows.{second_stimuli}
use Rattle.two_frame.specs.declared.frame_good.FrameGood.{FrameGood}
use Rattle.two_frame.specs.declared.frame_good.FrameScratch.{FrameScratch}
use Rattle.two_frame.specs.TwoFrame.{frame_fails, transitions}

-- The rows are those of the first frame and of the second.
pub record IsFrameGood (t : ScanTest) (g : FrameGood) : Type 0 where
  pub first : AreGoodRows t g.first
  pub built : IsBuiltFor t g.second
  pub second : AreRowsOf t.netlist (second_stimuli t) g.second.rows

-- nothing is changed, and there is room for a change of each net
abbrev pub IsFrameScratch : FrameGood → FrameScratch → Type 0
IsFrameScratch g s = IsScratchOf g.second s.scratch

-- each pattern captures
abbrev pub AllCapture : ScanTest → Type 0
AllCapture t = All (λ w. w.kind ≡ Capture) t.patterns

-- the transition fault at a place
abbrev pub transition_at : ScanTest → ℕ → Fault
transition_at t place = slice_index_or (transitions t) place no_fault

-- a row of points says where the fault predicts a fail in pattern w
abbrev pub AreFrameFails : ScanTest → Fault → ℕ → List Bool → Type 0
AreFrameFails t f w out = (k : ℕ) → k < length (points_of t) → slice_index_or out k false ≡ frame_fails t f (bit_of w k)
