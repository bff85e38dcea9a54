-- How what points show under a fault differs from what they show without one.
use Rattle.std.specs.Prelude.{◌≡◌, ℕ, ◌<◌, length, Some, None, false}
use Rattle.scan_model.specs.declared.values.Tri.{Tri}
use Rattle.scan_model.specs.declared.fault.Fault.{Fault}
use Rattle.scan_model.specs.declared.parts.Point.{Point}
use Rattle.scan_model.specs.Values.{is_unknown, tri_xor}
use Rattle.scan_model.specs.ScanTest.{ScanTest}
use Rattle.scan_model.specs.Response.{observed}
use Rattle.lane_rows.specs.Planes.{Planes, held}
use Rattle.lane_rows.specs.GoodRows.{pattern_of}

-- a value that isn't X becomes the other one by XOR with the change
abbrev pub IsChange : Tri → Tri → Tri → Type 0
IsChange old change new = is_unknown old ≡ false → tri_xor old change ≡ new

-- in each pattern of block b the point shows the same under the fault as without one
abbrev pub IsSameShown : ScanTest → ℕ → Fault → Point → Type 0
IsSameShown t b f p = (j : ℕ) → j < 512 → pattern_of b j < length t.patterns → observed t (Some f) (pattern_of b j) p ≡ observed t None (pattern_of b j) p

-- the row has what changes
abbrev pub IsShownChange : ScanTest → ℕ → Fault → Point → Planes → Type 0
IsShownChange t b f p row = (j : ℕ) → j < 512 → pattern_of b j < length t.patterns → IsChange (observed t None (pattern_of b j) p) (held row j) (observed t (Some f) (pattern_of b j) p)
