-- What faults do in a test, as far as flips of nets tell it: in each pattern and at each place where the tester looks.
use Rattle.std.specs.Prelude.{◌≡◌, ℕ, ◌<◌, List, length, Bool, true, false, ◌&&◌, ◌||◌, ◌==◌, nat_lt, Contains, Some, None}
use Rattle.std.specs.List.{list_any}
use Rattle.scan_model.specs.declared.fault.BridgeKind.{BridgeKind}
use Rattle.scan_model.specs.declared.fault.Fault.{Fault}
use Rattle.scan_model.specs.declared.fault.Fault.TheVariants.{Branch, Bridge}
use Rattle.scan_model.specs.declared.fault.Stuck.TheVariants.{Zero, One}
use Rattle.scan_model.specs.ScanTest.{ScanTest, points_of, point_at}
use Rattle.scan_model.specs.Coverage.{bit_of}
use Rattle.scan_model.specs.Response.{observed, predicts_fail}
use Rattle.scan_model.specs.Masks.{mask, flip_shows, straight, touched_nets, IsLogic}
use Rattle.lane_rows.specs.GoodRows.{pattern_of}
use Rattle.packed_sim.specs.PackedParts.{captures}
use Rattle.fault_effects.specs.declared.readers.SoleReader.{SoleReader}
use Rattle.fault_effects.specs.Readers.{IsSoleReader}

-- what is true at place q in lane j of a block
abbrev pub Table : Type 0
Table = ℕ → ℕ → Bool

-- nothing is
abbrev pub no_places : Table
no_places q j = false

-- w is a pattern, n a net, p a pin, g a gate, q a place, k a point
pub record FaultModel : Type 0 where
  -- at how many places the tester looks
  pub places : ℕ
  -- the pattern is there
  pub exists : ℕ → Bool
  -- it is there, and flips count in it
  pub captures : ℕ → Bool
  -- w n q: a flip of the net, alone, shows at the place
  pub shows : ℕ → ℕ → ℕ → Bool
  -- w p g: a flip of the pin, alone, flips the gate that reads through it
  pub pin_flips : ℕ → ℕ → ℕ → Bool
  -- f w n: the fault flips the net
  pub flips : Fault → ℕ → ℕ → Bool
  -- f w q: the fault's pin goes straight to what the place shows, and fails there
  pub straight : Fault → ℕ → ℕ → Bool
  -- f w q: the fault predicts a fail
  pub fails : Fault → ℕ → ℕ → Bool
  -- q k: what the place shows depends on the point
  pub sees : ℕ → ℕ → Bool

-- What holds of the logic faults of a list: they fail by the flips of the nets that they touch, of which a bridge flips one at most, and a net that
-- one gate alone reads shows where the gate does.
pub record IsFaultModel (t : ScanTest) (faults : List Fault) (m : FaultModel) : Type 0 where
  pub there : (w : ℕ) → m.captures w ≡ true → m.exists w ≡ true
  pub logic : (f : Fault) → Contains faults f → IsLogic f → (w q : ℕ) → q < m.places → m.exists w ≡ true
      → m.fails f w q ≡ (m.captures w && (list_any (λ n. m.flips f w n && m.shows w n q) (touched_nets t f) || m.straight f w q))
  pub apart : (f : Fault) (n w q : ℕ) → IsLogic f → Contains (touched_nets t f) n → m.straight f w q ≡ false
  pub one_net : (a b w : ℕ) (kind : BridgeKind) → (m.flips (Bridge a b kind) w a && m.flips (Bridge a b kind) w b) ≡ false
  pub downstream : (w n : ℕ) (r : SoleReader) → IsSoleReader t n r → (q : ℕ) → q < m.places → m.captures w ≡ true → m.shows w n q ≡ (m.pin_flips w r.pin r.gate && m.shows w r.gate q)

-- What holds of faults of shift paths: a place tells two apart, or one from none, by the points that it sees.
pub record IsChainModel (t : ScanTest) (m : FaultModel) : Type 0 where
  pub patterns : (w : ℕ) → m.exists w ≡ true → w < length t.patterns
  pub same : (f g : Fault) (w q : ℕ) → q < m.places → ((k : ℕ) → k < length (points_of t) → m.sees q k ≡ true → observed t (Some f) w (point_at t k) ≡ observed t (Some g) w (point_at t k)) → m.fails f w q ≡ m.fails g w q
  pub silent : (f : Fault) (w q : ℕ) → q < m.places → ((k : ℕ) → k < length (points_of t) → m.sees q k ≡ true → observed t (Some f) w (point_at t k) ≡ observed t None w (point_at t k)) → m.fails f w q ≡ false

-- in lane j of block b the fault predicts a fail at place q
abbrev pub fails_in : FaultModel → ℕ → Fault → Table
fails_in m b f q j = m.exists (pattern_of b j) && m.fails f (pattern_of b j) q

-- in lane j of block b a flip of net n shows at place q
abbrev pub shown_in : FaultModel → ℕ → ℕ → Table
shown_in m b n q j = m.captures (pattern_of b j) && m.shows (pattern_of b j) n q

-- in lane j of block b the fault's pin goes straight to what place q shows, and fails there
abbrev pub straight_in : FaultModel → ℕ → Fault → Table
straight_in m b f q j = m.captures (pattern_of b j) && m.straight f (pattern_of b j) q

-- in pattern w the pin flips gate g, held at 0 or at 1
abbrev pub pin_flips : ScanTest → ℕ → ℕ → ℕ → Bool
pin_flips t w p g = mask t (Branch p Zero) w g || mask t (Branch p One) w g

-- where each point is a place
abbrev pub point_model : ScanTest → FaultModel
point_model t = record {
  places = length (points_of t);
  exists = λ w. nat_lt w (length t.patterns);
  captures = captures t;
  shows = flip_shows t;
  pin_flips = pin_flips t;
  flips = mask t;
  straight = straight t;
  fails = λ f w k. predicts_fail t f (bit_of w k);
  sees = λ q k. q == k;
}
