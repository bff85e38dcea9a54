-- What a point shows in a lane of a block of fault-free rows.
use Rattle.std.proofs.Common.{◌≡◌, ℕ, ◌<◌, length, None, refl, sym, ◌∙◌}
use Rattle.std.specs.Prelude.{◌||◌, if◌then◌else◌}
use Rattle.std.proofs.lemmas.Bool.{lt-ltb}
use Rattle.scan_model.specs.declared.values.Tri.{Tri}
use Rattle.scan_model.specs.declared.values.Tri.TheVariants.{Zero, One, Unknown}
use Rattle.scan_model.specs.declared.parts.Point.{Point}
use Rattle.scan_model.specs.declared.parts.PatternKind.{PatternKind}
use Rattle.scan_model.specs.declared.parts.PatternKind.TheVariants.{Capture, Shift}
use Rattle.scan_model.specs.Values.{is_zero, is_one}
use Rattle.scan_model.specs.ScanTest.{ScanTest, IsScanTest, IsPoint, pattern_at}
use Rattle.scan_model.specs.Response.{observed}
use Rattle.scan_model.specs.Suspect.{observed_net}
use Rattle.scan_model.proofs.counting.Shown.{observed_good, observed_net-in_range}
use Rattle.lane_rows.specs.declared.block.Block.{Block}
use Rattle.lane_rows.specs.Lanes.{lane}
use Rattle.lane_rows.specs.Sources.{lane_values}
use Rattle.lane_rows.specs.GoodRows.{AreBlockRows, pattern_of, same_kind}

-- a value is known where it is 1 or 0
pub value_of_its_bits : (v : Tri) → (if is_zero v || is_one v then (if is_one v then One else Zero) else Unknown) ≡ v
value_of_its_bits Zero = refl
value_of_its_bits One = refl
value_of_its_bits Unknown = refl

-- where patterns capture, a point shows the net that it observes
pub block_shows : (t : ScanTest) (b j : ℕ) (x : Block) (p : Point) (captured shifted : Tri) → IsScanTest t → AreBlockRows t b x → IsPoint t p → j < 512 → pattern_of b j < length t.patterns
    → captured ≡ lane_values x.values j (observed_net t p) → ((pattern_at t (pattern_of b j)).kind ≡ Shift → shifted ≡ observed t None (pattern_of b j) p)
    → (if lane x.capture j then captured else shifted) ≡ observed t None (pattern_of b j) p
block_shows t b j x p captured shifted sound rows is_point lane_in there captures shifts = go (pattern_at t (pattern_of b j)).kind refl
  where
    capture_lane : (k : PatternKind) → (pattern_at t (pattern_of b j)).kind ≡ k → lane x.capture j ≡ same_kind Capture k
    capture_lane k is = rows.capture j lane_in ∙ rw (lt-ltb (pattern_of b j) (length t.patterns) there, is) refl

    go : (k : PatternKind) → (pattern_at t (pattern_of b j)).kind ≡ k → (if lane x.capture j then captured else shifted) ≡ observed t None (pattern_of b j) p
    go Capture is = rw (capture_lane Capture is)
        (captures ∙ rows.good j (observed_net t p) lane_in (observed_net-in_range t sound p is_point) there is ∙ sym (observed_good t sound (pattern_of b j) p is_point is))
    go Shift is = rw (capture_lane Shift is) (shifts is)
