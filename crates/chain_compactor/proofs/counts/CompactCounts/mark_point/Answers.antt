use Rattle.std.proofs.Common.{◌≡◌, ℕ, ◌<◌, ◌≤◌, Bool, eqb, true, ◌||◌, List, None, Some, length, get_or, sym, ap, subst, ◌∙◌, inl, inr, arith, below_more}
use Rattle.std.proofs.lemmas.Bool.{cases_eq, cases_lt, eq-eqb, ne_eqb, or_right}
use Rattle.std.proofs.lemmas.List.{get_or_default}
use Rattle.std.proofs.lemmas.Option.{slice_get_within, get_or_from_slice_get, slice_get-get_or}
use Rattle.scan_model.specs.ScanTest.{point_at}
use Rattle.place_sets.specs.Places.{has_place}
use Rattle.chain_compactor.specs.ObservationPoints.{seeing}
use Rattle.chain_compactor.proofs.counts.CompactCounts.mark_point.Goals as goal

pub insert-requires : goal.insert-requires
insert-requires c =
    let o = c.args.self.now in
    let ks : List ℕ = seeing o.parts.now o.compact.now (point_at o.parts.now c.args.point) in
    let nth = c.loop-place.nth in
    let q = c.in-Some.place in
    let inside : nth < length ks = slice_get_within ks nth q (sym c.in-Some.ensures.place) in
    let place : q < length o.compact.now.points = subst (λ (x : ℕ). x < length o.compact.now.points) (get_or_from_slice_get ks nth q 0 (sym c.in-Some.ensures.place)) (o.seen_within c.args.point c.requires.point nth 0 inside) in
    omega (arith, place, c.loop-place.invariant.rooms, c.requires.room)

pub loop-place-preserved : goal.loop-place-preserved
loop-place-preserved c =
    let o = c.args.self.now in
    let inv = c.loop-place.invariant in
    let ks : List ℕ = seeing o.parts.now o.compact.now (point_at o.parts.now c.args.point) in
    let nth = c.loop-place.nth in
    let q = c.in-Some.place in
    let old = c.loop-place.due in
    let inside : nth < length ks = slice_get_within ks nth q (sym c.in-Some.ensures.place) in
    let at : get_or ks nth 0 ≡ q = get_or_from_slice_get ks nth q 0 (sym c.in-Some.ensures.place) in
    let place : q < length o.compact.now.points = subst (λ (x : ℕ). x < length o.compact.now.points) at (o.seen_within c.args.point c.requires.point nth 0 inside) in
    let stays : (x : ℕ) → has_place old x ≡ true → has_place c.insert.new.self x ≡ true = λ x has. c.insert.ensures.places x ∙ or_right (eqb x q) (has_place old x) has in
    record {
      rooms = c.insert.ensures.room ∙ inv.rooms;
      places = λ h x has. elim (cases_eq x q) [
        | inl same ↦ omega (arith, same, place)
        | inr other ↦ inv.places h x (sym (c.insert.ensures.places x ∙ ap (λ (b : Bool). b || has_place old x) (ne_eqb x q other)) ∙ has)
      ];
      kept = λ x has. stays x (inv.kept x has);
      marked = below_more _ _ (λ i h. stays (get_or ks i 0) (inv.marked i h)) (c.insert.ensures.places (get_or ks nth 0) ∙ ap (λ (b : Bool). b || has_place old (get_or ks nth 0)) (eq-eqb (get_or ks nth 0) q at));
      nth_le = omega (arith, inside);
    }

pub returns-clause-seeing : goal.returns-clause-seeing
returns-clause-seeing c = λ q has.
    let o = c.args.self.now in
    let ks : List ℕ = seeing o.parts.now o.compact.now (point_at o.parts.now c.args.point) in
    let nth = c.loop-place.nth in
    let past : length ks ≤ nth = elim (cases_lt nth (length ks)) [
      | inl lt ↦ absurd (let e : None ≡ Some (get_or ks nth 0) = c.in_default.ensures.place ∙ slice_get-get_or ks nth 0 lt in cc)
      | inr le ↦ le
    ] in
    subst (λ (x : ℕ). has_place c.loop-place.due x ≡ true) (get_or_default ks has.0 0 q has.1 ∙ has.2) (c.loop-place.invariant.marked has.0 (omega (arith, has.1, past)))
