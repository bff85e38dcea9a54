use Rattle.std.proofs.Common.{ℕ, get_or, sym, subst, inl, inr, arith}
use Rattle.std.proofs.lemmas.Bool.{cases_eq}
use Rattle.std.proofs.lemmas.List.{get_or_default}
use Rattle.scan_model.specs.declared.fault.Fault.TheVariants as fault
use Rattle.fault_effects.specs.Walks.{ArePlacesFresh}
use Rattle.fault_effects.proofs.WalkNotes.{places_kept, renoted_join}
use Rattle.fault_effects.proofs.loaded_chain.LoadedChain.note_points.Goals as goal

pub note_point-requires-clause-point : goal.note_point-requires-clause-point
note_point-requires-clause-point g c = c.requires.points c.loop-point.point-index 0 c.loop-point-test.true

pub loop-point-preserved : goal.loop-point-preserved
loop-point-preserved g c =
    let self = c.args.self.now in
    let m = g.O.Observer.model self.work.now.observer.now in
    let b = self.work.now.block in
    let f = fault.Cell self.chain self.pos self.kind in
    let at = c.loop-point.point-index in
    let old = c.loop-point.notes.rows.items in
    let new = c.note_point.new.notes.rows.items in
    let Fresh : ℕ → Type 0 = λ i. ArePlacesFresh m b f new (get_or c.args.points.now i 0) in
    record {
      notes = c.note_point.ensures.notes;
      renoted = renoted_join m b f c.args.notes.now.rows.items old new c.loop-point.invariant.renoted c.note_point.ensures.renoted;
      fresh = λ i lt. elim (cases_eq i at) [
        | inl same ↦ subst Fresh (sym same) c.note_point.ensures.fresh
        | inr other ↦ places_kept m b f old new c.note_point.ensures.renoted (get_or c.args.points.now i 0) (c.loop-point.invariant.fresh i (omega arith))
      ];
    }

pub returns-clause-renoted : goal.returns-clause-renoted
returns-clause-renoted g c = c.loop-point.invariant.renoted

pub returns-clause-fresh : goal.returns-clause-fresh
returns-clause-fresh g c = λ k d lt.
    let self = c.args.self.now in
    let m = g.O.Observer.model self.work.now.observer.now in
    let f = fault.Cell self.chain self.pos self.kind in
    let Fresh : ℕ → Type 0 = ArePlacesFresh m self.work.now.block f c.loop-point.notes.rows.items in
    subst Fresh (get_or_default c.args.points.now k 0 d lt) (c.loop-point.invariant.fresh k (omega (arith, lt, c.loop-point-test.false)))
