-- What is known of the frame of a log, with the rows of its cells' places.
use Rattle.std.specs.Prelude.{ℕ, ◌≡◌, ◌<◌, ◌≤◌, List, length, map, slice_index, slice_index_or, All, Contains, bytes_eq}
use Rattle.std.specs.List.{IsDistinct}
use Rattle.scan_model.specs.declared.parts.Point.{Point}
use Rattle.scan_model.specs.declared.parts.Point.TheVariants.{Output, Cell}
use Rattle.scan_model.specs.declared.logs.LogForm.{LogForm}
use Rattle.scan_model.specs.ScanTest.{ScanTest, name_of}
use Rattle.scan_model.specs.LogText.{LogFrame, is_shift}
use Rattle.fail_logs.specs.BitNumbers.{place_in}
use Rattle.fail_logs.specs.Frames.{frame_view, places_view}
use Rattle.fail_logs.specs.declared.frame.Frame.{Frame}

-- the frame of a test of which a log of this form lists bits at these points, where these are the names and the lengths
-- of the chains, or of what stands in their place
abbrev pub frame_with : ScanTest → LogForm → List (List ℕ) → List ℕ → List Point → List ℕ → List ℕ → LogFrame
frame_with t form chains lengths points design die = record {
  form = form;
  outputs = map (name_of t) t.netlist.outputs;
  chains = chains;
  lengths = lengths;
  points = points;
  shifts = map is_shift t.patterns;
  design = design;
  die = die;
}

abbrev pub point_among : List Point → ℕ → Point
point_among points k = slice_index_or points k (Output 0)

-- one of so many outputs, or of a chain among so many
abbrev pub IsPointOf : ℕ → ℕ → Point → Type 0
IsPointOf outputs chains (Output k) = k < outputs
IsPointOf outputs chains (Cell h i) = h < chains

-- The points are the outputs, each at its own place, and after them the cells of chains of these lengths, each once.
pub record ArePoints (outputs : ℕ) (lengths : List ℕ) (points : List Point) : Type 0 where
  pub outputs_first : (k : ℕ) → k < outputs → (k < length points) × (point_among points k ≡ Output k)
  pub cells : (h i : ℕ) → i < slice_index lengths h → Contains points (Cell h i)
  pub within : All (IsPointOf outputs (length lengths)) points
  pub differ : (j k : ℕ) → j < length points → k < length points → point_among points j ≡ point_among points k → j ≡ k

abbrev pub point_in : LogFrame → ℕ → Point
point_in frame k = slice_index_or frame.points k (Output 0)

-- a point at an output or a chain of the frame
abbrev pub IsPointIn : LogFrame → Point → Type 0
IsPointIn frame s = IsPointOf (length frame.outputs) (length frame.chains) s

pub record IsFrame (frame : LogFrame) (rows : List (List ℕ)) : Type 0 where
  pub outputs_differ : IsDistinct bytes_eq frame.outputs
  pub chains_differ : IsDistinct bytes_eq frame.chains
  pub lengths : length frame.lengths ≡ length frame.chains
  pub outputs : (k : ℕ) → k < length frame.outputs → (k < length frame.points) × (point_in frame k ≡ Output k)
  pub cells : (h i : ℕ) → i < slice_index frame.lengths h → (place_in rows h i < length frame.points) × (point_in frame (place_in rows h i) ≡ Cell h i)
  pub points : All (IsPointIn frame) frame.points
  pub points_differ : (j k : ℕ) → j < length frame.points → k < length frame.points → point_in frame j ≡ point_in frame k → j ≡ k
  pub few_outputs : length frame.outputs ≤ 131072
  pub few_chains : length frame.chains ≤ 256
  pub few_points : length frame.points ≤ 131072
  pub few_patterns : length frame.shifts ≤ 4096

-- a frame with its own rows
abbrev pub IsFrameOf : Frame → Type 0
IsFrameOf frame = IsFrame (frame_view frame) (places_view frame)
