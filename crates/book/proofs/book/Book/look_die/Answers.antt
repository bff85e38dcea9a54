use Rattle.std.proofs.Common.{◌≡◌, ℕ, List, Ok, refl, sym, ap, ◌∙◌, subst}
use Rattle.std.specs.Arc.{arc_value}
use Rattle.diagnosis.specs.Designs.{ViewFacts, texts_of}
use Rattle.book.specs.Answers.{die_look, up_to}
use Rattle.book.specs.Changes.{BookFacts, IsBook, IsViewIn}
use Rattle.book.specs.Lookups.{IsDieIn}
use Rattle.die_entries.specs.Entries.{arc_values}
use Rattle.book.proofs.LegalLists.{both}
use Rattle.book.proofs.Looking.{design_there, die_looked, view_in, revision_stays}
use Rattle.book.proofs.Showing.{IsShown, is_shown, some_is, die_tagged, part_stands, part_differs}
use Rattle.book.proofs.book.Book.look_die.Goals as goal

pub view_of-requires-clause-die : goal.view_of-requires-clause-die
view_of-requires-clause-die g c =
    let there : IsDieIn c.self.inside.kept.deeds c.name.result.now c.args.die.now (arc_values c.logs.result.now) c.in-Some.kept.now.signs =
    subst (λ ls. IsDieIn c.self.inside.kept.deeds c.name.result.now c.args.die.now ls c.in-Some.kept.now.signs) (sym c.logs.ensures) (some_is _ _ _ c.in-Some.is c.in_ok-kept.ensures.some) in
    let shown : IsShown c.args.self.now.deeds (arc_value c.in_ok-found.found) c.args.die.now c.logs.result.now c.in_ok-logs.logs.now c.in-Some.kept.now.signs =
    is_shown c.self.inside.kept.deeds c.args.self.now.deeds c.deref.result.now (arc_value c.in_ok-found.found) c.name.result.now c.args.design.now c.args.die.now c.logs.result.now c.logs.result.now c.in_ok-logs.logs.now c.in-Some.kept.now.signs
    (ap (λ (b : BookFacts). b.deeds) c.self.view_is) (both _ _ (subst IsBook c.self.view_is c.self.invariant).legal).1 c.deref.ensures c.name.ensures.design c.name.ensures.value c.in_ok-found.ensures.name
    (design_there c.args.self.now.deeds c.args.design.now (arc_value c.in_ok-found.found).text c.in_ok-found.ensures.looked) there refl c.in_ok-logs.ensures.part in
    die_tagged c.args.self.now.deeds (arc_value c.in_ok-found.found).name c.args.die.now (arc_values c.logs.result.now) c.in-Some.kept.now.signs shown.legal shown.found

pub view_of-requires-clause-logs : goal.view_of-requires-clause-logs
view_of-requires-clause-logs g c =
    let there : IsDieIn c.self.inside.kept.deeds c.name.result.now c.args.die.now (arc_values c.logs.result.now) c.in-Some.kept.now.signs =
    subst (λ ls. IsDieIn c.self.inside.kept.deeds c.name.result.now c.args.die.now ls c.in-Some.kept.now.signs) (sym c.logs.ensures) (some_is _ _ _ c.in-Some.is c.in_ok-kept.ensures.some) in
    let shown : IsShown c.args.self.now.deeds (arc_value c.in_ok-found.found) c.args.die.now c.logs.result.now c.in_ok-logs.logs.now c.in-Some.kept.now.signs =
    is_shown c.self.inside.kept.deeds c.args.self.now.deeds c.deref.result.now (arc_value c.in_ok-found.found) c.name.result.now c.args.design.now c.args.die.now c.logs.result.now c.logs.result.now c.in_ok-logs.logs.now c.in-Some.kept.now.signs
    (ap (λ (b : BookFacts). b.deeds) c.self.view_is) (both _ _ (subst IsBook c.self.view_is c.self.invariant).legal).1 c.deref.ensures c.name.ensures.design c.name.ensures.value c.in_ok-found.ensures.name
    (design_there c.args.self.now.deeds c.args.design.now (arc_value c.in_ok-found.found).text c.in_ok-found.ensures.looked) there refl c.in_ok-logs.ensures.part in
    part_stands c.args.self.now.deeds (arc_value c.in_ok-found.found) c.args.die.now c.logs.result.now c.in_ok-logs.logs.now c.in-Some.kept.now.signs shown.design shown.named shown.found shown.cut

pub view_of-requires-clause-differ : goal.view_of-requires-clause-differ
view_of-requires-clause-differ g c =
    let there : IsDieIn c.self.inside.kept.deeds c.name.result.now c.args.die.now (arc_values c.logs.result.now) c.in-Some.kept.now.signs =
    subst (λ ls. IsDieIn c.self.inside.kept.deeds c.name.result.now c.args.die.now ls c.in-Some.kept.now.signs) (sym c.logs.ensures) (some_is _ _ _ c.in-Some.is c.in_ok-kept.ensures.some) in
    let shown : IsShown c.args.self.now.deeds (arc_value c.in_ok-found.found) c.args.die.now c.logs.result.now c.in_ok-logs.logs.now c.in-Some.kept.now.signs =
    is_shown c.self.inside.kept.deeds c.args.self.now.deeds c.deref.result.now (arc_value c.in_ok-found.found) c.name.result.now c.args.design.now c.args.die.now c.logs.result.now c.logs.result.now c.in_ok-logs.logs.now c.in-Some.kept.now.signs
    (ap (λ (b : BookFacts). b.deeds) c.self.view_is) (both _ _ (subst IsBook c.self.view_is c.self.invariant).legal).1 c.deref.ensures c.name.ensures.design c.name.ensures.value c.in_ok-found.ensures.name
    (design_there c.args.self.now.deeds c.args.design.now (arc_value c.in_ok-found.found).text c.in_ok-found.ensures.looked) there refl c.in_ok-logs.ensures.part in
    part_differs c.args.self.now.deeds (arc_value c.in_ok-found.found).name c.args.die.now c.logs.result.now c.in_ok-logs.logs.now c.in-Some.kept.now.signs shown.legal shown.found shown.cut

pub returns-clause-view : goal.returns-clause-view
returns-clause-view g c =
    let there : IsDieIn c.self.inside.kept.deeds c.name.result.now c.args.die.now (arc_values c.logs.result.now) c.in-Some.kept.now.signs =
    subst (λ ls. IsDieIn c.self.inside.kept.deeds c.name.result.now c.args.die.now ls c.in-Some.kept.now.signs) (sym c.logs.ensures) (some_is _ _ _ c.in-Some.is c.in_ok-kept.ensures.some) in
    let shown : IsShown c.args.self.now.deeds (arc_value c.in_ok-found.found) c.args.die.now c.logs.result.now c.in_ok-logs.logs.now c.in-Some.kept.now.signs =
    is_shown c.self.inside.kept.deeds c.args.self.now.deeds c.deref.result.now (arc_value c.in_ok-found.found) c.name.result.now c.args.design.now c.args.die.now c.logs.result.now c.logs.result.now c.in_ok-logs.logs.now c.in-Some.kept.now.signs
    (ap (λ (b : BookFacts). b.deeds) c.self.view_is) (both _ _ (subst IsBook c.self.view_is c.self.invariant).legal).1 c.deref.ensures c.name.ensures.design c.name.ensures.value c.in_ok-found.ensures.name
    (design_there c.args.self.now.deeds c.args.design.now (arc_value c.in_ok-found.found).text c.in_ok-found.ensures.looked) there refl c.in_ok-logs.ensures.part in
    subst (IsViewIn c.args.self.now.deeds) (sym c.in_ok-view_of.ensures) (view_in c.args.self.now.deeds (arc_value c.in_ok-found.found) c.args.die.now c.in_ok-logs.logs.now c.logs.result.now shown.named shown.found.texts shown.cut)

pub returns-clause-stays : goal.returns-clause-stays
returns-clause-stays g c =
    let there : IsDieIn c.self.inside.kept.deeds c.name.result.now c.args.die.now (arc_values c.logs.result.now) c.in-Some.kept.now.signs =
    subst (λ ls. IsDieIn c.self.inside.kept.deeds c.name.result.now c.args.die.now ls c.in-Some.kept.now.signs) (sym c.logs.ensures) (some_is _ _ _ c.in-Some.is c.in_ok-kept.ensures.some) in
    let shown : IsShown c.args.self.now.deeds (arc_value c.in_ok-found.found) c.args.die.now c.logs.result.now c.in_ok-logs.logs.now c.in-Some.kept.now.signs =
    is_shown c.self.inside.kept.deeds c.args.self.now.deeds c.deref.result.now (arc_value c.in_ok-found.found) c.name.result.now c.args.design.now c.args.die.now c.logs.result.now c.logs.result.now c.in_ok-logs.logs.now c.in-Some.kept.now.signs
    (ap (λ (b : BookFacts). b.deeds) c.self.view_is) (both _ _ (subst IsBook c.self.view_is c.self.invariant).legal).1 c.deref.ensures c.name.ensures.design c.name.ensures.value c.in_ok-found.ensures.name
    (design_there c.args.self.now.deeds c.args.design.now (arc_value c.in_ok-found.found).text c.in_ok-found.ensures.looked) there refl c.in_ok-logs.ensures.part in
    let part : up_to (texts_of (arc_values c.logs.result.now)) c.args.revision ≡ Ok (texts_of (arc_values c.in_ok-logs.logs.now)) =
    c.in_ok-logs.ensures.ok in
    let looked : die_look c.args.self.now.deeds c.args.design.now c.args.die.now c.args.revision ≡ Ok (texts_of c.in_ok-view_of.field-0.logs) =
    subst (λ (n : List ℕ). die_look c.args.self.now.deeds n c.args.die.now c.args.revision ≡ Ok (texts_of (arc_values c.in_ok-logs.logs.now))) c.in_ok-found.ensures.name
    (die_looked c.args.self.now.deeds (arc_value c.in_ok-found.found).name c.args.die.now (arc_value c.in_ok-found.found).text c.args.revision (arc_values c.logs.result.now) c.in-Some.kept.now.signs shown.named shown.found ∙ part)
    ∙ ap (λ (v : ViewFacts). Ok (texts_of v.logs)) (sym c.in_ok-view_of.ensures) in
    λ more r is. revision_stays c.args.self.now.deeds more c.args.design.now c.args.die.now c.args.revision r (texts_of c.in_ok-view_of.field-0.logs) is looked
