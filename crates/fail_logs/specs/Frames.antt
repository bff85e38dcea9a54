-- What a log is read for, without where it lies in memory.
use Rattle.std.specs.Prelude.{ℕ, ◌≤◌, List, length, map, Vec}
use Rattle.std.specs.declared.alloc.Global.{Global}
use Rattle.scan_model.specs.LogText as model
use Rattle.fail_logs.specs.declared.frame.Frame.{Frame}
use Rattle.fail_logs.specs.declared.rules.Headers.{Headers}

abbrev pub frame_view : Frame → model.LogFrame
frame_view f = record {
  form = f.form;
  outputs = f.outputs;
  chains = f.chains;
  lengths = f.lengths.items;
  points = f.points.now;
  shifts = f.shifts.items;
  design = f.design.now;
  die = f.die.now;
}

-- rows of numbers
abbrev pub rows_view : List (Vec ℕ Global) → List (List ℕ)
rows_view rows = map (λ r. r.items) rows

-- for each chain a row with the point of each of its cells
abbrev pub places_view : Frame → List (List ℕ)
places_view f = rows_view f.places.items

abbrev pub headers_view : Headers → model.Headers
headers_view h = record { die = h.die; design = h.design; ranges = h.tested; begun = h.begun }

-- as many outputs, chains, points and patterns as a test has at most
pub record IsSmall (f : Frame) : Type 0 where
  pub outputs : length f.outputs ≤ 131072
  pub chains : length f.chains ≤ 256
  pub points : length f.points.now ≤ 131072
  pub patterns : length f.shifts.items ≤ 4096
