use Rattle.std.proofs.Common.{◌≡◌, ℕ, ◌<◌, ◌≤◌, List, None, Some, length, get_or, sym, ap, subst, ◌∙◌, inl, inr, arith, below_more}
use Rattle.std.proofs.lemmas.Bool.{cases_lt, or_left, or_right}
use Rattle.std.proofs.lemmas.List.{get_or_default}
use Rattle.std.proofs.lemmas.Option.{slice_get_within, get_or_from_slice_get, slice_get-get_or}
use Rattle.scan_model.specs.declared.parts.Point.TheVariants.{Output}
use Rattle.scan_model.specs.ScanTest.{point_at}
use Rattle.scan_model.proofs.Points.{points_are_points}
use Rattle.lane_rows.specs.Lanes.{lane}
use Rattle.log_rows.specs.declared.point_row.PointRow.{PointRow}
use Rattle.log_rows.specs.PointRows.{no_point_row}
use Rattle.chain_compactor.specs.ObservationPoints.{seeing}
use Rattle.chain_compactor.proofs.SeenPoints.{seen_are_places}
use Rattle.chain_compactor.proofs.tracing.failing_downstream.Goals as goal

pub bounds-rows-place-in-Some : goal.bounds-rows-place-in-Some
bounds-rows-place-in-Some c =
    let t = c.args.parts.now in
    let k = c.args.compact.now in
    let ks : List ℕ = seeing t k (point_at t c.args.point) in
    let nth = c.loop-place.nth in
    let q = c.in-Some.place in
    let inside : nth < length ks = slice_get_within ks nth q (sym c.in-Some.ensures.place) in
    let place : q < length k.points = subst (λ (x : ℕ). x < length k.points) (get_or_from_slice_get ks nth q 0 (sym c.in-Some.ensures.place)) (seen_are_places t k c.requires.made (point_at t c.args.point) (points_are_points t c.args.point (Output 0) c.requires.point) nth 0 inside) in
    omega (arith, place, c.requires.rows)

pub bounds-rows-place : goal.bounds-rows-place
bounds-rows-place c =
    let t = c.args.parts.now in
    let k = c.args.compact.now in
    let ks : List ℕ = seeing t k (point_at t c.args.point) in
    let nth = c.loop-place.nth in
    let q = c.in-Some.place in
    let inside : nth < length ks = slice_get_within ks nth q (sym c.in-Some.ensures.place) in
    let place : q < length k.points = subst (λ (x : ℕ). x < length k.points) (get_or_from_slice_get ks nth q 0 (sym c.in-Some.ensures.place)) (seen_are_places t k c.requires.made (point_at t c.args.point) (points_are_points t c.args.point (Output 0) c.requires.point) nth 0 inside) in
    omega (arith, place, c.requires.rows)

pub overflow_add-nth : goal.overflow_add-nth
overflow_add-nth c =
    let t = c.args.parts.now in
    let k = c.args.compact.now in
    let ks : List ℕ = seeing t k (point_at t c.args.point) in
    let nth = c.loop-place.nth in
    let q = c.in-Some.place in
    let inside : nth < length ks = slice_get_within ks nth q (sym c.in-Some.ensures.place) in
    omega (arith, inside, c.in-Some.ensures.few)

pub loop-place-smaller : goal.loop-place-smaller
loop-place-smaller c =
    let t = c.args.parts.now in
    let k = c.args.compact.now in
    let ks : List ℕ = seeing t k (point_at t c.args.point) in
    let nth = c.loop-place.nth in
    let q = c.in-Some.place in
    let inside : nth < length ks = slice_get_within ks nth q (sym c.in-Some.ensures.place) in
    omega (arith, inside)

pub loop-place-preserved : goal.loop-place-preserved
loop-place-preserved c =
    let t = c.args.parts.now in
    let k = c.args.compact.now in
    let rows = c.args.rows.now in
    let ks : List ℕ = seeing t k (point_at t c.args.point) in
    let nth = c.loop-place.nth in
    let q = c.in-Some.place in
    let inside : nth < length ks = slice_get_within ks nth q (sym c.in-Some.ensures.place) in
    let at : get_or ks nth 0 ≡ q = get_or_from_slice_get ks nth q 0 (sym c.in-Some.ensures.place) in
    let place : q < length k.points = subst (λ (x : ℕ). x < length k.points) at (seen_are_places t k c.requires.made (point_at t c.args.point) (points_are_points t c.args.point (Output 0) c.requires.point) nth 0 inside) in
    let seen : PointRow = get_or rows q c.index-rows-place.result in
    let own : seen ≡ get_or rows (get_or ks nth 0) no_point_row = get_or_default rows q c.index-rows-place.result no_point_row (omega (arith, place, c.requires.rows)) ∙ sym (ap (λ (x : ℕ). get_or rows x no_point_row) at) in
    record {
      nth_le = omega (arith, inside);
      taken = below_more _ _ (λ i h j lt fails. c.or-row.ensures j lt ∙ or_left (lane c.loop-place.row j) (lane seen.failing j) (c.loop-place.invariant.taken i h j lt fails))
          (λ j lt fails. c.or-row.ensures j lt ∙ or_right (lane c.loop-place.row j) (lane seen.failing j) (ap (λ (x : PointRow). lane x.failing j) own ∙ fails));
    }

pub returns : goal.returns
returns c = λ q j lt has fails.
    let t = c.args.parts.now in
    let ks : List ℕ = seeing t c.args.compact.now (point_at t c.args.point) in
    let nth = c.loop-place.nth in
    let past : length ks ≤ nth = elim (cases_lt nth (length ks)) [
      | inl lt ↦ absurd (let e : None ≡ Some (get_or ks nth 0) = c.in_default.ensures.place ∙ slice_get-get_or ks nth 0 lt in cc)
      | inr le ↦ le
    ] in
    let same : get_or ks has.0 0 ≡ q = get_or_default ks has.0 0 q has.1 ∙ has.2 in
    c.loop-place.invariant.taken has.0 (omega (arith, has.1, past)) j lt (ap (λ (x : ℕ). lane (get_or c.args.rows.now x no_point_row).failing j) same ∙ fails)
