-- What the log of a compactor is read for.
use Rattle.std.specs.Prelude.{ℕ, List, map}
use Rattle.scan_model.specs.declared.logs.LogForm.TheVariants.{CompactLog}
use Rattle.scan_model.specs.ScanTest.{ScanTest}
use Rattle.scan_model.specs.LogText.{LogFrame}
use Rattle.fail_logs.specs.FrameFacts.{frame_with}
use Rattle.compact_points.specs.Channels.{Compactor, cycles_of}

-- The channels stand in the place of chains, each as long as it shows something, and the compact points in that of the
-- points.
abbrev pub compact_frame : ScanTest → Compactor → List ℕ → List ℕ → LogFrame
compact_frame t c design die = frame_with t CompactLog (map (λ x. x.name) c.channels) (map (cycles_of t) c.channels) c.points design die
