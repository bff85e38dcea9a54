use Rattle.std.proofs.Common.{ℕ, ◌||◌, None, nat_lt, get_or, drop, ◌+◌}
use Rattle.std.specs.List.{list_any}
use Rattle.scan_model.specs.declared.fault.Fault.TheVariants as fault
use Rattle.scan_model.specs.ScanTest.{chain_at}
use Rattle.explained_lanes.specs.Fails.{any_fail, explains_in}
use Rattle.explained_lanes.specs.Traces.{is_from, is_shifted_through, lane_at}
use Rattle.explained_lanes.proofs.ToldLanes.{tells_or, tells_same, covers_exact, covers_all}
use Rattle.explained_lanes.proofs.Explained.{cell_is, cells_in_range}
use Rattle.explained_lanes.proofs.explain.explaining_lanes.Goals as goal

pub returns-in-Stem : goal.returns-in-Stem
returns-in-Stem c = λ b good within.
    rw c.in-Stem.is (covers_exact c.stem_row.result (explains_in c.args.parts.now (fault.Stem c.in-Stem.net c.in-Stem.value) b c.args.trace.now.fails) (c.stem_row.ensures b good within))

pub returns-in-Branch : goal.returns-in-Branch
returns-in-Branch c = λ b good within.
    rw c.in-Branch.is (covers_exact c.branch_row.result (explains_in c.args.parts.now (fault.Branch c.in-Branch.pin c.in-Branch.value) b c.args.trace.now.fails) (c.branch_row.ensures b good within))

pub returns-in-Bridge : goal.returns-in-Bridge
returns-in-Bridge c = λ b good within.
    rw c.in-Bridge.is (covers_exact c.bridge_row.result (explains_in c.args.parts.now (fault.Bridge c.in-Bridge.a c.in-Bridge.b c.in-Bridge.kind) b c.args.trace.now.fails) (c.bridge_row.ensures b good within))

pub returns-in-Cell : goal.returns-in-Cell
returns-in-Cell c = λ b good within.
    let t = c.args.parts.now in
    let h = c.in-Cell.chain in
    let i = c.in-Cell.pos in
    let K = c.in-Cell.kind in
    let trace = c.args.trace.now in
    let block = c.args.block.now in
    let site = rw c.in-Cell.is at c.requires.site in
    let first = is_from (get_or trace.firsts h None) i in
    let last = nat_lt i (get_or trace.lasts h 0) in
    let P = λ (j : ℕ). any_fail t trace.fails j (is_shifted_through block.shift j h i) in
    let Q = λ (j : ℕ). list_any (lane_at trace.reach j) (drop (i + 1) (chain_at t h).cells) in
    rw c.in-Cell.is (covers_all c.lanes_if.result c.is_cell_explained.result (explains_in t (fault.Cell h i K) b trace.fails) c.lanes_if.ensures
    (tells_same c.is_cell_explained.result (λ j. P j || Q j) (explains_in t (fault.Cell h i K) b trace.fails)
    (λ j lj. cell_is t b block good trace.fails within j lj h i K trace.reach (cells_in_range t c.circuit.ensures.fits h site.0) (λ n ln. c.requires.trace.reach j n lj ln))
    (tells_or first last c.is_cell_explained.result P Q (c.requires.trace.firsts h site.0 i) (c.requires.trace.lasts h site.0 i) c.is_cell_explained.ensures)))
