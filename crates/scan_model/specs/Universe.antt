-- The list of all modelled faults. A fault's place is its position.
use Rattle.std.specs.Prelude.{ℕ, List, [], ◌∷◌, ◌++◌, filter, flat_map, length}
use Rattle.std.specs.List.{range_with_len, enumerate_from}
use Rattle.scan_model.specs.declared.parts.Chain.{Chain}
use Rattle.scan_model.specs.declared.parts.Pair.{Pair}
use Rattle.scan_model.specs.declared.fault.Stuck.TheVariants as stuck
use Rattle.scan_model.specs.declared.fault.BridgeKind.TheVariants.{Dominant, WiredAnd, WiredOr, DominantAnd, DominantOr}
use Rattle.scan_model.specs.declared.fault.Profile.{Profile}
use Rattle.scan_model.specs.declared.fault.Profile.TheVariants.{One, Two}
use Rattle.scan_model.specs.declared.fault.CellKind.TheVariants.{Stuck0, Stuck1, SlowRise, SlowFall}
use Rattle.scan_model.specs.declared.fault.Fault.{Fault}
use Rattle.scan_model.specs.declared.fault.Fault.TheVariants.{Stem, Branch, Bridge, Cell}
use Rattle.scan_model.specs.Netlist.{net_numbers, pin_numbers, is_branch}
use Rattle.scan_model.specs.ScanTest.{ScanTest}

abbrev pub stem_faults : ℕ → List Fault
stem_faults n = Stem n stuck.Zero ∷ Stem n stuck.One ∷ []

abbrev pub branch_faults : ℕ → List Fault
branch_faults p = Branch p stuck.Zero ∷ Branch p stuck.One ∷ []

-- the bridges of a pair in which a net, or both, takes one value in every case
abbrev pub common_bridges : Pair → List Fault
common_bridges p = Bridge p.a p.b Dominant ∷ Bridge p.b p.a Dominant ∷ Bridge p.a p.b WiredAnd ∷ Bridge p.a p.b WiredOr ∷ []

-- the bridges of a pair in which the aggressor wins one value alone
abbrev pub one_sided_bridges : Pair → List Fault
one_sided_bridges p = Bridge p.a p.b DominantAnd ∷ Bridge p.b p.a DominantAnd ∷ Bridge p.a p.b DominantOr ∷ Bridge p.b p.a DominantOr ∷ []

-- the faults of a pair: four in profile 1, eight in profile 2
abbrev pub bridge_faults : Profile → Pair → List Fault
bridge_faults One p = common_bridges p
bridge_faults Two p = common_bridges p ++ one_sided_bridges p

-- how many there are of each pair
abbrev pub bridges_per_pair : Profile → ℕ
bridges_per_pair One = 4
bridges_per_pair Two = 8

abbrev pub cell_faults : ℕ → ℕ → List Fault
cell_faults h i = Cell h i Stuck0 ∷ Cell h i Stuck1 ∷ Cell h i SlowRise ∷ Cell h i SlowFall ∷ []

abbrev pub stems : ScanTest → List Fault
stems t = flat_map stem_faults (net_numbers t.netlist)

abbrev pub branches : ScanTest → List Fault
branches t = flat_map branch_faults (filter (is_branch t.netlist) (pin_numbers t.netlist))

abbrev pub bridges : ScanTest → List Fault
bridges t = flat_map (bridge_faults t.profile) t.pairs.kept

abbrev pub chain_faults : ℕ × Chain → List Fault
chain_faults e = flat_map (cell_faults e.0) (range_with_len 0 (length e.1.cells))

abbrev pub cells : ScanTest → List Fault
cells t = flat_map chain_faults (enumerate_from 0 t.chains)

abbrev pub universe : ScanTest → List Fault
universe t = stems t ++ branches t ++ bridges t ++ cells t
