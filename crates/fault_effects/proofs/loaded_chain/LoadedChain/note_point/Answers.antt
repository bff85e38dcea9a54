use Rattle.std.proofs.Common.{◌≡◌, ℕ, ◌<◌, length, get_or, Some, sym, ap, subst, ◌∙◌, inl, inr, arith}
use Rattle.std.specs.Prelude.{slice_get}
use Rattle.std.proofs.lemmas.Bool.{cases_eq, cases_lt}
use Rattle.std.proofs.lemmas.List.{get_or_default}
use Rattle.std.proofs.lemmas.Option.{none-some, slice_get_within, slice_get-get_or, get_or_from_slice_get}
use Rattle.scan_model.specs.declared.fault.Fault.TheVariants as fault
use Rattle.scan_model.specs.ScanTest.{ScanTest, points_of}
use Rattle.fault_effects.specs.Walks.{IsFresh}
use Rattle.fault_effects.proofs.WalkNotes.{fresh_kept, renoted_join}
use Rattle.fault_effects.proofs.loaded_chain.LoadedChain.note_point.Goals as goal

pub note_place-requires-clause-place : goal.note_place-requires-clause-place
note_place-requires-clause-place g c =
    let o = c.args.self.now.work.now.observer.now in
    let k = c.args.point in
    let places = g.O.ChainObserver.seeing o k in
    let Below : ScanTest → Type 0 = λ t. k < length (points_of t) in
    let There : ℕ → Type 0 = λ q. q < (g.O.Observer.model o).places in
    let is : slice_get places c.loop-place.nth ≡ Some c.in-Some.place = sym c.in-Some.ensures.place in
    subst There (get_or_from_slice_get places c.loop-place.nth c.in-Some.place 0 is)
    (g.met.O.ChainObserver.seen_there o k (subst Below (sym c.requires.work.test) c.requires.point) c.loop-place.nth 0 (slice_get_within places c.loop-place.nth c.in-Some.place is))

pub overflow_add-nth : goal.overflow_add-nth
overflow_add-nth g c =
    let places = g.O.ChainObserver.seeing c.args.self.now.work.now.observer.now c.args.point in
    omega (arith, slice_get_within places c.loop-place.nth c.in-Some.place (sym c.in-Some.ensures.place), c.in-Some.ensures.few)

pub loop-place-smaller : goal.loop-place-smaller
loop-place-smaller g c =
    let places = g.O.ChainObserver.seeing c.args.self.now.work.now.observer.now c.args.point in
    omega (arith, slice_get_within places c.loop-place.nth c.in-Some.place (sym c.in-Some.ensures.place))

pub loop-place-preserved : goal.loop-place-preserved
loop-place-preserved g c =
    let self = c.args.self.now in
    let o = self.work.now.observer.now in
    let m = g.O.Observer.model o in
    let b = self.work.now.block in
    let f = fault.Cell self.chain self.pos self.kind in
    let places = g.O.ChainObserver.seeing o c.args.point in
    let at = c.loop-place.nth in
    let old = c.loop-place.notes.rows.items in
    let new = c.note_place.new.notes.rows.items in
    let is : slice_get places at ≡ Some c.in-Some.place = sym c.in-Some.ensures.place in
    let here : get_or places at 0 ≡ c.in-Some.place = get_or_from_slice_get places at c.in-Some.place 0 is in
    let within : at < length places = slice_get_within places at c.in-Some.place is in
    let Fresh : ℕ → Type 0 = IsFresh m b f new in
    record {
      notes = c.note_place.ensures.notes;
      renoted = renoted_join m b f c.args.notes.now.rows.items old new c.loop-place.invariant.renoted c.note_place.ensures.renoted;
      fresh = λ i lt. elim (cases_eq i at) [
        | inl same ↦ subst Fresh (sym (ap (λ (x : ℕ). get_or places x 0) same ∙ here)) c.note_place.ensures.fresh
        | inr other ↦ fresh_kept m b f old new c.note_place.ensures.renoted (get_or places i 0) (c.loop-place.invariant.fresh i (omega arith))
      ];
      nth_le = omega (arith, within);
    }

pub returns-clause-renoted : goal.returns-clause-renoted
returns-clause-renoted g c = c.loop-place.invariant.renoted

pub returns-clause-fresh : goal.returns-clause-fresh
returns-clause-fresh g c = λ q q_lt sees.
    let self = c.args.self.now in
    let o = self.work.now.observer.now in
    let m = g.O.Observer.model o in
    let b = self.work.now.block in
    let f = fault.Cell self.chain self.pos self.kind in
    let k = c.args.point in
    let places = g.O.ChainObserver.seeing o k in
    let n = c.loop-place.nth in
    let Below : ScanTest → Type 0 = λ t. k < length (points_of t) in
    let Fresh : ℕ → Type 0 = IsFresh m b f c.loop-place.notes.rows.items in
    let at = g.met.O.ChainObserver.seen_all o k q (subst Below (sym c.requires.work.test) c.requires.point) q_lt sees in
    elim (cases_lt at.0 n) [
      | inl before ↦ subst Fresh (get_or_default places at.0 0 q at.1 ∙ at.2) (c.loop-place.invariant.fresh at.0 before)
      | inr past ↦ absurd (none-some (get_or places n 0) (c.in_default.ensures.place ∙ slice_get-get_or places n 0 (omega (arith, at.1, past))))
    ]
