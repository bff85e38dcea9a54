use Rattle.std.proofs.Common.{◌≡◌, ℕ, ◌-◌, ◌<◌, List, [], length, map, get_or, sym, ap, subst, ◌∙◌, arith}
use Rattle.std.specs.Prelude.{slice_get}
use Rattle.std.specs.List.{range_with_len}
use Rattle.std.proofs.lemmas.List.{length-map}
use Rattle.std.proofs.lemmas.List.FromFn.{get_or-map-range_with_len, length-map-range_with_len, length-range_with_len}
use Rattle.std.proofs.lemmas.List.Sums.{length-filter, count_by-le-length}
use Rattle.scan_model.specs.declared.parts.Point.{Point}
use Rattle.scan_model.specs.declared.parts.Point.TheVariants.{Output, Cell}
use Rattle.scan_model.specs.ScanTest.{ScanTest, IsPoint, points_of, point_at}
use Rattle.scan_model.proofs.Points.{points_are_points}
use Rattle.fail_logs.specs.BitNumbers.{place_in}
use Rattle.fail_logs.specs.Frames.{rows_view}
use Rattle.compact_points.specs.Channels.{channel_at, chain_length}
use Rattle.chain_compactor.specs.ObservationPoints.{has_chain, channels_of, cycle_places, seeing}
use Rattle.chain_compactor.proofs.tables.Tables.place_seeing.Goals as goal

-- the point that was read is the test's
cell_at : (t : ScanTest) (points : List Point) (k h i : ℕ) → points ≡ points_of t → get_or points k (Output 0) ≡ Cell h i → point_at t k ≡ Cell h i
cell_at t points k h i are is = ap (λ (ps : List Point). get_or ps k (Output 0)) (sym are) ∙ is

is_cell : (t : ScanTest) (points : List Point) (k h i : ℕ) → points ≡ points_of t → get_or points k (Output 0) ≡ Cell h i → k < length (points_of t) → IsPoint t (Cell h i)
is_cell t points k h i are is lt = subst (IsPoint t) (cell_at t points k h i are is) (points_are_points t k (Output 0) lt)

pub chain_length-requires : goal.chain_length-requires
chain_length-requires c = (is_cell c.args.parts.now c.as_slice.result.now c.args.point c.in-Cell.chain c.in-Cell.pos (c.as_slice.ensures ∙ c.points.ensures.value) c.in-Cell.is c.requires.point).0

pub overflow_sub-cycle : goal.overflow_sub-cycle
overflow_sub-cycle c =
    omega (arith, c.chain_length.ensures.value, (is_cell c.args.parts.now c.as_slice.result.now c.args.point c.in-Cell.chain c.in-Cell.pos (c.as_slice.ensures ∙ c.points.ensures.value) c.in-Cell.is c.requires.point).1)

pub overflow_sub-cycle-in-Cell : goal.overflow_sub-cycle-in-Cell
overflow_sub-cycle-in-Cell c =
    omega (arith, c.chain_length.ensures.value, (is_cell c.args.parts.now c.as_slice.result.now c.args.point c.in-Cell.chain c.in-Cell.pos (c.as_slice.ensures ∙ c.points.ensures.value) c.in-Cell.is c.requires.point).1)

pub nth_place-requires : goal.nth_place-requires
nth_place-requires c =
    let t = c.args.parts.now in
    let cell = is_cell t c.as_slice.result.now c.args.point c.in-Cell.chain c.in-Cell.pos (c.as_slice.ensures ∙ c.points.ensures.value) c.in-Cell.is c.requires.point in
    omega (arith, cell.0, ap length c.requires.tables.channels, length-map c.args.self.now.channels.items (λ r. r.items), length-map-range_with_len (channels_of c.args.compact.now) 0 (length t.chains))

pub returns-in-Cell-clause-place : goal.returns-in-Cell-clause-place
returns-in-Cell-clause-place c =
    let t = c.args.parts.now in
    let k = c.args.compact.now in
    let h = c.in-Cell.chain in
    let i = c.in-Cell.pos in
    let nth = c.args.nth in
    let are = c.as_slice.ensures ∙ c.points.ensures.value in
    let cell = is_cell t c.as_slice.result.now c.args.point h i are c.in-Cell.is c.requires.point in
    let cycle = c.chain_length.result - 1 - i in
    let rows = rows_view c.args.self.now.channels.items in
    let row : get_or rows h [] ≡ channels_of k h = ap (λ (xs : List (List ℕ)). get_or xs h []) c.requires.tables.channels ∙ get_or-map-range_with_len (channels_of k) 0 (length t.chains) h h [] cell.0 (omega arith) in
    c.nth_place.ensures
    ∙ ap (λ (places : List (List ℕ)). slice_get (map (λ x. place_in places x cycle) (get_or rows h [])) nth) c.requires.tables.places
    ∙ ap (λ (xs : List ℕ). slice_get (map (λ x. place_in (cycle_places t k) x cycle) xs) nth) row
    ∙ ap (λ (n : ℕ). slice_get (map (λ x. place_in (cycle_places t k) x (n - 1 - i)) (channels_of k h)) nth) c.chain_length.ensures.value
    ∙ ap (λ (p : Point). slice_get (seeing t k p) nth) (sym (cell_at t c.as_slice.result.now c.args.point h i are c.in-Cell.is))

pub returns-in-Cell-clause-few : goal.returns-in-Cell-clause-few
returns-in-Cell-clause-few c =
    let t = c.args.parts.now in
    let k = c.args.compact.now in
    let h = c.in-Cell.chain in
    let i = c.in-Cell.pos in
    let n = length k.channels in
    let shows = λ (x : ℕ). has_chain (channel_at k.channels x).chains h in
    let few : length (seeing t k (Cell h i)) < 4294967296 =
    omega (arith, length-map (channels_of k h) (λ x. place_in (cycle_places t k) x (chain_length t h - 1 - i)), length-filter shows (range_with_len 0 n), count_by-le-length shows (range_with_len 0 n), length-range_with_len 0 n, c.requires.made.channels.few) in
    subst (λ (p : Point). length (seeing t k p) < 4294967296) (sym (cell_at t c.as_slice.result.now c.args.point h i (c.as_slice.ensures ∙ c.points.ensures.value) c.in-Cell.is)) few
