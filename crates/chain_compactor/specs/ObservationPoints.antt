-- The compact points at which a point of the test is observed.
use Rattle.std.specs.Prelude.{◌≡◌, ℕ, ◌-◌, ◌==◌, List, [], ◌∷◌, length, map, filter, replicate, Bool}
use Rattle.std.specs.List.{list_any, range_with_len}
use Rattle.scan_model.specs.declared.parts.Point.{Point}
use Rattle.scan_model.specs.declared.parts.Point.TheVariants.{Output, Cell}
use Rattle.scan_model.specs.ScanTest.{ScanTest}
use Rattle.scan_model.specs.Suspect.{observed_net}
use Rattle.fail_logs.specs.BitNumbers.{place_in}
use Rattle.fail_logs.specs.Frames.{rows_view}
use Rattle.fail_logs.specs.Places.{places_in}
use Rattle.compact_points.specs.Channels.{Compactor, channel_at, chain_length, cycles_of}
use Rattle.chain_compactor.specs.declared.tables.Tables.{Tables}

-- a channel of these chains shows chain h
abbrev pub has_chain : List ℕ → ℕ → Bool
has_chain chains h = list_any (λ g. g == h) chains

-- the channels that show chain h, in file order
abbrev pub channels_of : Compactor → ℕ → List ℕ
channels_of c h = filter (λ x. has_chain (channel_at c.channels x).chains h) (range_with_len 0 (length c.channels))

-- for each channel a row with its compact point in each cycle in which it shows something
abbrev pub cycle_places : ScanTest → Compactor → List (List ℕ)
cycle_places t c = places_in (map (λ n. replicate n 0) (map (cycles_of t) c.channels)) 0 c.points

-- the compact points that see a point: an output sees itself, and a cell is seen in the cycle in which its chain shows it
abbrev pub seeing : ScanTest → Compactor → Point → List ℕ
seeing t c (Output k) = k ∷ []
seeing t c (Cell h i) = map (λ x. place_in (cycle_places t c) x (chain_length t h - 1 - i)) (channels_of c h)

-- the nets that the cells of chain h observe, by position
abbrev pub nets_of : ScanTest → ℕ → List ℕ
nets_of t h = map (λ i. observed_net t (Cell h i)) (range_with_len 0 (chain_length t h))

-- the nets that the cells observe, chain by chain
abbrev pub chain_nets : ScanTest → List (List ℕ)
chain_nets t = map (nets_of t) (range_with_len 0 (length t.chains))

-- the tables have the channels of each chain, the compact points of each channel, and the nets of each chain
pub record AreTables (t : ScanTest) (c : Compactor) (tables : Tables) : Type 0 where
  pub channels : rows_view tables.channels.items ≡ map (channels_of c) (range_with_len 0 (length t.chains))
  pub places : rows_view tables.places.items ≡ cycle_places t c
  pub nets : rows_view tables.nets.items ≡ chain_nets t
