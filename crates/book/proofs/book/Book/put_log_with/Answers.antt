use Rattle.std.proofs.Common.{◌≡◌, ◌<◌, ℕ, List, true, not, Some, length, refl, sym, ap, ◌∙◌, subst, rules}
use Rattle.std.specs.Arc.{arc_value}
use Rattle.book.specs.Deeds.{design_text}
use Rattle.book.specs.LegalDeeds.{fits}
use Rattle.book.specs.Changes.{BookFacts}
use Rattle.book.specs.Kinds.{log_deed}
use Rattle.book.proofs.Changing.{book_after}
use Rattle.book.proofs.Fitting.{log_fits_at, some_of}
use Rattle.book.proofs.LegalLists.{both}
use Rattle.book.proofs.book.Book.put_log_with.Goals as goal

pub record_log-requires-clause-fits : goal.record_log-requires-clause-fits
record_log-requires-clause-fits g c =
    let log = arc_value c.args.log.now in
    let found = some_of _ _ (c.is_none.ensures ∙ ap not c.if-is_none.false) c.design-2.ensures.some in
    let at : c.design.result.now ≡ log.design = search rules in
    log_fits_at c.self.inside.kept.deeds c.args.self.now.deeds c.args.by log c.design-3.result.now c.die.result.now c.text.result.now (arc_value found.0.design.now).text c.in_ok-same.same c.in-Created.number
    (both _ _ c.self.invariant.legal).1 (search rules) (sym (ap (λ (b : BookFacts). b.deeds) c.self.view_is)) (search rules) (search rules) (search rules)
    (subst (λ (n : List ℕ). design_text c.self.inside.kept.deeds n ≡ Some (arc_value found.0.design.now).text) at found.1.text) c.requires.stands c.in_ok-same.ensures c.in-Created.is

pub invariant_of-self-2 : goal.invariant_of-self-2
invariant_of-self-2 g c =
    let log = arc_value c.args.log.now in
    let found = some_of _ _ (c.is_none.ensures ∙ ap not c.if-is_none.false) c.design-2.ensures.some in
    let at : c.design.result.now ≡ log.design = search rules in
    let one : fits c.self.inside.kept.deeds (log_deed c.args.by log).what ≡ true =
    log_fits_at c.self.inside.kept.deeds c.args.self.now.deeds c.args.by log c.design-3.result.now c.die.result.now c.text.result.now (arc_value found.0.design.now).text c.in_ok-same.same c.in-Created.number
    (both _ _ c.self.invariant.legal).1 (search rules) (sym (ap (λ (b : BookFacts). b.deeds) c.self.view_is)) (search rules) (search rules) (search rules)
    (subst (λ (n : List ℕ). design_text c.self.inside.kept.deeds n ≡ Some (arc_value found.0.design.now).text) at found.1.text) c.requires.stands c.in_ok-same.ensures c.in-Created.is in
    let room : length c.self.inside.kept.deeds < c.self.inside.limit = subst (λ (b : BookFacts). length b.deeds < b.limit) (sym c.self.view_is) c.in_ok-has_room.ensures.room in
    book_after c.record_log.result (log_deed c.args.by log) _ _ c.self.invariant room one c.record_log.ensures.deeds refl c.record_log.ensures.rows
