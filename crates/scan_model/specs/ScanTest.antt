-- A circuit with its scan chains, its patterns, its pairs of neighbouring nets and the profile of
-- their bridges.
use Rattle.std.specs.Prelude.{◌≡◌, ℕ, ◌+◌, ◌-◌, ◌<◌, ◌≤◌, max, List, [], ◌∷◌, ◌++◌, length, map, flat_map, cond, Bool, ◌==◌, ◌&&◌, ◌||◌, nat_lt, nat_eq, bytes_eq, IsFalse, All, slice_index_or}
use Rattle.std.specs.List.{range_with_len, IsDistinct}
use Rattle.scan_model.specs.declared.circuit.Driver.{Driver}
use Rattle.scan_model.specs.declared.circuit.Driver.TheVariants.{Input, Flop, Gate}
use Rattle.scan_model.specs.declared.parts.Chain.{Chain}
use Rattle.scan_model.specs.declared.parts.PatternKind.{PatternKind}
use Rattle.scan_model.specs.declared.parts.PatternKind.TheVariants.{Capture, Shift}
use Rattle.scan_model.specs.declared.parts.Pattern.{Pattern}
use Rattle.scan_model.specs.declared.parts.Pair.{Pair}
use Rattle.scan_model.specs.declared.parts.Pairs.{Pairs}
use Rattle.scan_model.specs.declared.parts.Point.{Point}
use Rattle.scan_model.specs.declared.parts.Point.TheVariants.{Output, Cell}
use Rattle.scan_model.specs.declared.fault.Fault.{Fault}
use Rattle.scan_model.specs.declared.fault.Profile.{Profile}
use Rattle.scan_model.specs.declared.fault.Fault.TheVariants as fault
use Rattle.scan_model.specs.Netlist.{Netlist, net_at, driver_of}
use Rattle.scan_model.specs.Circuits.{IsCircuit}
use Rattle.scan_model.specs.Cone.{in_fan_in}

pub record ScanTest : Type 0 where
  pub profile : Profile
  pub netlist : Netlist
  pub chains : List Chain
  pub patterns : List Pattern
  pub pairs : Pairs

abbrev pub scan_test : Profile → Netlist → List Chain → List Pattern → Pairs → ScanTest
scan_test profile netlist chains patterns pairs = record { profile = profile; netlist = netlist; chains = chains; patterns = patterns; pairs = pairs }

abbrev pub no_chain : Chain
no_chain = record { name = []; cells = [] }

abbrev pub no_pattern : Pattern
no_pattern = record { kind = Shift; inputs = []; loads = [] }

abbrev pub chain_at : ScanTest → ℕ → Chain
chain_at t h = slice_index_or t.chains h no_chain

abbrev pub pattern_at : ScanTest → ℕ → Pattern
pattern_at t w = slice_index_or t.patterns w no_pattern

-- the name of a net
abbrev pub name_of : ScanTest → ℕ → List ℕ
name_of t n = (net_at t.netlist n).name

-- all cells, chain by chain
abbrev pub cells_of : List Chain → List ℕ
cells_of chains = flat_map (λ h. h.cells) chains

-- what unload cycle t shows of the chains from number h on
abbrev pub cycle : ℕ → ℕ → List Chain → List Point
cycle t h [] = []
cycle t h (c ∷ cs) = cond (nat_lt t (length c.cells)) (Cell h (length c.cells - 1 - t) ∷ cycle t (h + 1) cs) (cycle t (h + 1) cs)

abbrev pub longest : List Chain → ℕ
longest [] = 0
longest (c ∷ cs) = max (length c.cells) (longest cs)

-- The points in test order: the outputs, and then the cells, unload cycle by unload cycle.
abbrev pub points_of : ScanTest → List Point
points_of t = map (λ k. Output k) (range_with_len 0 (length t.netlist.outputs))
    ++ flat_map (λ cycle_number. cycle cycle_number 0 t.chains) (range_with_len 0 (longest t.chains))

abbrev pub point_at : ScanTest → ℕ → Point
point_at t k = slice_index_or (points_of t) k (Output 0)

abbrev pub IsFlop : Driver → Type 0
IsFlop Input = ⊥
IsFlop Flop = Unit {0}
IsFlop (Gate kind) = ⊥

-- how many input values a pattern has: one for each input where it captures, none where it only shifts
abbrev pub input_count : Netlist → PatternKind → ℕ
input_count c Capture = length c.inputs
input_count c Shift = 0

-- the pattern has its input values, and a value for each cell of each chain
pub record FitsPattern (c : Netlist) (chains : List Chain) (w : Pattern) : Type 0 where
  pub inputs : length w.inputs ≡ input_count c w.kind
  pub loads : map length w.loads ≡ map (λ h. length h.cells) chains

-- neither net lies in the other's fan-in cone
pub record IsNoFeedback (c : Netlist) (p : Pair) : Type 0 where
  pub a_of_b : IsFalse (in_fan_in c p.a p.b)
  pub b_of_a : IsFalse (in_fan_in c p.b p.a)

-- both pairs have the same two nets, in either order
abbrev pub same_pair : Pair → Pair → Bool
same_pair p q = ((p.a == q.a) && (p.b == q.b)) || ((p.a == q.b) && (p.b == q.a))

-- The chains have cells of the circuit's flops; no cell stands twice and no two chains share a name.
pub record AreChains (c : Netlist) (chains : List Chain) : Type 0 where
  pub cells : All (λ n. (n < length c.nets) × IsFlop (driver_of c n)) (cells_of chains)
  pub cells_differ : IsDistinct nat_eq (cells_of chains)
  pub names_differ : IsDistinct bytes_eq (map (λ h. h.name) chains)
  pub names_fit : All (λ h. length h.name ≤ 64) chains
  pub few : length chains ≤ 256

-- There is a pattern, and each has its values.
pub record ArePatterns (c : Netlist) (chains : List Chain) (patterns : List Pattern) : Type 0 where
  pub each : All (FitsPattern c chains) patterns
  pub some : 0 < length patterns
  pub few : length patterns ≤ 4096

-- The pairs are of nets of the circuit; no kept pair is a feedback pair, and no two kept ones have the same two nets.
pub record ArePairs (c : Netlist) (pairs : Pairs) : Type 0 where
  pub kept_nets : All (λ p. (p.a < length c.nets) × (p.b < length c.nets)) pairs.kept
  pub left_out_nets : All (λ p. (p.a < length c.nets) × (p.b < length c.nets)) pairs.left_out
  pub differ : IsDistinct same_pair pairs.kept
  pub no_feedback : All (IsNoFeedback c) pairs.kept
  pub few : length pairs.kept + length pairs.left_out ≤ 65536

-- the four lists fit each other
pub record IsScanTest (t : ScanTest) : Type 0 where
  pub circuit : IsCircuit t.netlist
  pub chains : AreChains t.netlist t.chains
  pub patterns : ArePatterns t.netlist t.chains t.patterns
  pub pairs : ArePairs t.netlist t.pairs

-- a list of points is that of the test, in test order
pub record IsSoundTest (t : ScanTest) (points : List Point) : Type 0 where
  pub fits : IsScanTest t
  pub in_order : points ≡ points_of t
  pub few : length (points_of t) ≤ 131072

-- a point of the test
abbrev pub IsPoint : ScanTest → Point → Type 0
IsPoint t (Output k) = k < length t.netlist.outputs
IsPoint t (Cell h i) = (h < length t.chains) × (i < length (chain_at t h).cells)

-- the nets, the pin or the cell of a fault are there
abbrev pub HasSite : ScanTest → Fault → Type 0
HasSite t (fault.Stem n v) = n < length t.netlist.nets
HasSite t (fault.Branch p v) = p < length t.netlist.pins
HasSite t (fault.Bridge a b kind) = (a < length t.netlist.nets) × (b < length t.netlist.nets)
HasSite t (fault.Cell h i kind) = (h < length t.chains) × (i < length (chain_at t h).cells)
