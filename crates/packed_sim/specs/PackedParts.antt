-- What is made for the parts of a test, and what a scratch holds beside it.
use Rattle.std.specs.Prelude.{◌≡◌, ◌↔◌, ℕ, ◌+◌, ◌*◌, ◌<◌, ◌≤◌, ◌^◌, All, Contains, IsTrue, List, [], length, map, filter, Bool, false, ◌&&◌, ◌==◌, nat_lt, is_some, None, slice_index_or}
use Rattle.std.specs.List.{list_any, range_with_len}
use Rattle.std.specs.Int.{bit_at}
use Rattle.scan_model.specs.declared.values.Tri.{Tri}
use Rattle.scan_model.specs.declared.fault.Fault.{Fault}
use Rattle.scan_model.specs.Netlist.{is_gate, net_numbers}
use Rattle.scan_model.specs.Cone.{in_fan_in}
use Rattle.scan_model.specs.ScanTest.{ScanTest, points_of, point_at}
use Rattle.scan_model.specs.Coverage.{bit_of}
use Rattle.scan_model.specs.Response.{predicts_fail}
use Rattle.scan_model.specs.Suspect.{observed_net}
use Rattle.scan_model.specs.Masks.{touched_nets}
use Rattle.lane_rows.specs.declared.block.Block.{Block}
use Rattle.lane_rows.specs.Sources.{lane_values}
use Rattle.lane_rows.specs.GoodRows.{AreGoodRows, no_block}
use Rattle.lane_rows.specs.Stimuli.{HaveRows}
pub use Rattle.lane_rows.specs.Stimuli.{captures}
use Rattle.place_sets.specs.Places.{has_place, room}
use Rattle.lane_rows.specs.Wiring.{AreKept, IsWiredFor}
use Rattle.packed_sim.specs.declared.good.PackedGood.{PackedGood}
use Rattle.packed_sim.specs.declared.good.CircuitLinks.{CircuitLinks}
use Rattle.packed_sim.specs.declared.scratch.Scratch.{Scratch}
use Rattle.packed_sim.specs.Rows.{IsClean}
use Rattle.packed_sim.specs.Propagation.{lane_now}

-- the net that point k observes
abbrev pub observed_at : ScanTest → ℕ → ℕ
observed_at t k = observed_net t (point_at t k)

-- the points that observe a net
abbrev pub points_of_net : ScanTest → ℕ → List ℕ
points_of_net t n = filter (λ k. observed_at t k == n) (range_with_len 0 (length (points_of t)))

-- the nets that the points observe, all of them nets of the test
pub record AreObserved (t : ScanTest) (nets : List ℕ) : Type 0 where
  pub are : nets ≡ map (observed_net t) (points_of t)
  pub in_range : All (λ n. n < length t.netlist.nets) nets
  pub few : length nets < 2 ^ 32

-- the places of a set are the nets that points observe
abbrev pub AreObserving : ScanTest → List ℕ → Type 0
AreObserving t set = (n : ℕ) → Contains (map (observed_net t) (points_of t)) n ↔ IsTrue (has_place set n)

-- What was read off the circuit of a test: the nets that its points observe, as a list and as a set, the wiring for these, and the points of each net.
pub record AreLinksOf (t : ScanTest) (links : CircuitLinks) : Type 0 where
  pub observed : links.observed.items ≡ map (observed_net t) (points_of t)
  pub wired : IsWiredFor t.netlist links.observed.items links.wiring.order.items links.wiring.sinks
  pub kept : AreKept t.netlist links.wiring.order.items links.wiring.gates.items links.wiring.operands.items
  pub net_count : length links.points ≡ length t.netlist.nets
  pub points : (n : ℕ) → n < length t.netlist.nets → slice_index_or links.points n [] ≡ points_of_net t n
  pub observing : AreObserving t links.observing

-- The wiring and the points are those of a test, and each block has a row for each net, of whatever values.
pub record IsBuiltFor (t : ScanTest) (g : PackedGood) : Type 0 where
  pub rows : HaveRows t.netlist g.rows
  pub observed : g.observed.items ≡ map (observed_net t) (points_of t)
  pub wired : IsWiredFor t.netlist g.observed.items g.wiring.order.items g.wiring.sinks
  pub kept : AreKept t.netlist g.wiring.order.items g.wiring.gates.items g.wiring.operands.items
  pub net_count : length g.points ≡ length t.netlist.nets
  pub points : (n : ℕ) → n < length t.netlist.nets → slice_index_or g.points n [] ≡ points_of_net t n
  pub observing : AreObserving t g.observing

-- Wiring, points and rows are those of a test, and the rows are the fault-free ones of its patterns.
pub record BelongsTo (t : ScanTest) (g : PackedGood) : Type 0 where
  pub rows : AreGoodRows t g.rows
  pub built : IsBuiltFor t g

abbrev pub block_at : PackedGood → ℕ → Block
block_at g b = slice_index_or g.rows b no_block

-- the fault-free value of a net in a lane of a block, and the value that it has now
abbrev pub good_at : PackedGood → ℕ → ℕ → ℕ → Tri
good_at g b j n = lane_values (block_at g b).values j n

abbrev pub now_at : PackedGood → Scratch → ℕ → ℕ → ℕ → Tri
now_at g s b j n = lane_now s.overlay (block_at g b).values j n

-- the scratch has a row of its own for the net
abbrev pub has_own_row : Scratch → ℕ → Bool
has_own_row s n = is_some (slice_index_or s.overlay n None)

-- The scratch has room for what was made, and nothing waits.
pub record IsScratchIn (g : PackedGood) (s : Scratch) : Type 0 where
  pub own : length s.overlay ≡ length g.points
  pub moved_room : length g.points ≤ room s.moved
  pub empty : (k : ℕ) → has_place s.waiting k ≡ false
  pub room : length g.points ≤ room s.waiting

-- The scratch has room, nothing waits, and no net has a row of its own.
pub record IsScratchOf (g : PackedGood) (s : Scratch) : Type 0 where
  pub inside : IsScratchIn g s
  pub clean : IsClean s.overlay

-- the gates to which one of the nets leads
abbrev pub gates_downstream : ScanTest → List ℕ → List ℕ
gates_downstream t nets = filter (λ g. is_gate t.netlist g && list_any (λ n. in_fan_in t.netlist n g) nets) (net_numbers t.netlist)

abbrev pub cone_gates : ScanTest → Fault → List ℕ
cone_gates t f = gates_downstream t (touched_nets t f)

-- Bit i of the word of point k is set where pattern 64 * word + i is there and the fault predicts a fail in it at the point.
abbrev pub AreFails : ScanTest → Fault → ℕ → List ℕ → Type 0
AreFails t f word out = (k i : ℕ) → k < length (points_of t) → i < 64
    → (bit_at (slice_index_or out k 0) i == 1) ≡ (nat_lt (64 * word + i) (length t.patterns) && predicts_fail t f (bit_of (64 * word + i) k))
