-- A compactor downstream of the chains of a test: channels, each of which shows the XOR of several chains, and the compact points at
-- which a tester sees through it.
use Rattle.std.specs.Prelude.{◌≡◌, ℕ, ◌+◌, ◌<◌, ◌≤◌, max, nat_lt, cond, List, [], ◌∷◌, ◌++◌, length, map, flat_map, bytes_eq, All, slice_index_or}
use Rattle.std.specs.List.{range_with_len, IsDistinct}
use Rattle.scan_model.specs.declared.parts.Point.{Point}
use Rattle.scan_model.specs.declared.parts.Point.TheVariants.{Output, Cell}
use Rattle.scan_model.specs.ScanTest.{ScanTest, chain_at}
use Rattle.compact_points.specs.declared.compactor.Channel.{Channel}

-- The channels in file order and the compact points in their order. A compact point is an output, or a channel in a cycle,
-- which is written as a cell is: the channel in place of the chain, and the cycle in place of the position.
pub record Compactor : Type 0 where
  pub channels : List Channel
  pub points : List Point

abbrev pub compactor : List Channel → List Point → Compactor
compactor channels points = record { channels = channels; points = points }

abbrev pub no_channel : Channel
no_channel = record { name = []; chains = [] }

abbrev pub channel_at : List Channel → ℕ → Channel
channel_at channels x = slice_index_or channels x no_channel

-- the greatest of some numbers, and 0 of none
abbrev pub greatest : List ℕ → ℕ
greatest [] = 0
greatest (n ∷ ns) = max n (greatest ns)

-- how many cells chain h has
abbrev pub chain_length : ScanTest → ℕ → ℕ
chain_length t h = length (chain_at t h).cells

-- in how many cycles a channel shows something: the greatest length of its chains
abbrev pub cycles_of : ScanTest → Channel → ℕ
cycles_of t x = greatest (map (chain_length t) x.chains)

-- The channels from number x on that show something in cycle u, in file order, where these are the numbers of cycles in
-- which they do.
abbrev pub shown_in : ℕ → ℕ → List ℕ → List Point
shown_in u x [] = []
shown_in u x (n ∷ ns) = cond (nat_lt u n) (Cell x u ∷ shown_in u (x + 1) ns) (shown_in u (x + 1) ns)

-- the outputs, then cycle u from 0 upwards, and within a cycle the channels
abbrev pub points_over : ℕ → List ℕ → List Point
points_over outputs cycles = map (λ k. Output k) (range_with_len 0 outputs) ++ flat_map (λ u. shown_in u 0 cycles) (range_with_len 0 (greatest cycles))

abbrev pub compact_points : ScanTest → List Channel → List Point
compact_points t channels = points_over (length t.netlist.outputs) (map (cycles_of t) channels)

-- what channels leave of a test
abbrev pub compactor_of : ScanTest → List Channel → Compactor
compactor_of t channels = compactor channels (compact_points t channels)

-- The channels have chains of the test, and no two share a name.
pub record AreChannels (t : ScanTest) (channels : List Channel) : Type 0 where
  pub chains : All (λ x. All (λ h. h < length t.chains) x.chains) channels
  pub names_differ : IsDistinct bytes_eq (map (λ x. x.name) channels)
  pub few : length channels ≤ 256

-- the compactor was made for the test
pub record IsCompactorOf (t : ScanTest) (c : Compactor) : Type 0 where
  pub channels : AreChannels t c.channels
  pub points : c.points ≡ compact_points t c.channels
  pub few : length c.points ≤ 131072
