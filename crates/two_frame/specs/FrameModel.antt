-- What transition faults do in the second frame of each pattern, as far as flips of nets tell it: the stuck faults over that
-- frame's values, in the patterns in which the site makes the transition.
use Rattle.std.specs.Prelude.{ℕ, length, Bool, false, ◌&&◌, ◌==◌, nat_lt}
use Rattle.scan_model.specs.declared.fault.Fault.{Fault}
use Rattle.scan_model.specs.declared.fault.Fault.TheVariants as fault
use Rattle.scan_model.specs.Netlist.{pin_at}
use Rattle.scan_model.specs.ScanTest.{ScanTest, points_of, point_at}
use Rattle.scan_model.specs.Coverage.{bit_of}
use Rattle.scan_model.specs.Masks.{flip_shows_from, mask_from, place_is_point}
use Rattle.packed_sim.specs.PackedParts.{captures, observed_at}
use Rattle.fault_effects.specs.FaultModel.{FaultModel}
use Rattle.fault_effects.specs.PinFlips.{pin_flips_from}
use Rattle.frame_rows.specs.Frames.{second_source}
use Rattle.two_frame.specs.TwoFrame.{frame_fails, makes_transition}

-- the pin is the one that point k sees
abbrev pub goes_straight : ScanTest → Fault → ℕ → Bool
goes_straight t (fault.Stem n v) k = false
goes_straight t (fault.Branch p v) k = place_is_point t (pin_at t.netlist p).place (point_at t k)
goes_straight t (fault.Bridge a b kind) k = false
goes_straight t (fault.Cell h c kind) k = false

-- where each point is a place
abbrev pub frame_model : ScanTest → FaultModel
frame_model t = record {
  places = length (points_of t);
  exists = λ w. nat_lt w (length t.patterns);
  captures = captures t;
  shows = λ w n k. flip_shows_from t.netlist (second_source t w) n (observed_at t k);
  pin_flips = λ w p g. pin_flips_from t.netlist (second_source t w) p g;
  flips = λ f w n. makes_transition t f w && mask_from t.netlist (second_source t w) f n;
  straight = λ f w k. makes_transition t f w && goes_straight t f k;
  fails = λ f w k. frame_fails t f (bit_of w k);
  sees = λ q k. q == k;
}
