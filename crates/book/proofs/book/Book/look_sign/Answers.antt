use Rattle.std.proofs.Common.{◌≡◌, ◌++◌, List, Ok, ap, sym, ◌∙◌, subst}
use Rattle.std.specs.Arc.{arc_value}
use Rattle.sha2.specs.Sha256.{sha256}
use Rattle.die_entries.specs.declared.sign.Sign.{Sign as SignOff}
use Rattle.diagnosis.specs.Designs.{DesignFacts}
use Rattle.book.specs.Deeds.{report_at}
use Rattle.book.specs.Answers.{sign_look, sign_numbered}
use Rattle.book.specs.Changes.{BookFacts, IsBook, Looked}
use Rattle.book.specs.Lookups.{IsDieIn}
use Rattle.book.proofs.LegalLists.{both}
use Rattle.book.proofs.Looking.{if_looked, sign_is_right, sign_stays, sign_looked, design_there}
use Rattle.book.proofs.Showing.{some_is, die_as_named}
use Rattle.book.proofs.book.Book.look_sign.Goals as goal

pub returns-clause-right : goal.returns-clause-right
returns-clause-right g c =
    let deeds = c.args.self.now.deeds in
    let book : IsBook c.args.self.now = subst IsBook c.self.view_is c.self.invariant in
    let found : IsDieIn deeds c.args.design.now c.args.die.now c.in-Some.kept.now.logs c.in-Some.kept.now.signs =
    die_as_named c.self.inside.kept.deeds deeds c.name.result.now c.args.design.now c.args.die.now c.in-Some.kept.now.logs c.in-Some.kept.now.signs (ap (λ (b : BookFacts). b.deeds) c.self.view_is)
    (c.name.ensures.value ∙ ap (λ (v : DesignFacts). v.name) c.deref.ensures ∙ c.in_ok-found.ensures.name) (some_is _ _ _ c.in-Some.is c.in_ok-kept.ensures.some) in
    let looked : Looked (λ sign. sign) (sign_look deeds c.args.design.now c.args.die.now c.args.number) c.sign_of.result =
    subst (λ a. Looked (λ sign. sign) a c.sign_of.result) (sym (sign_looked deeds c.args.design.now c.args.die.now (arc_value c.in_ok-found.found).text c.args.number c.in-Some.kept.now.logs c.in-Some.kept.now.signs (design_there deeds c.args.design.now (arc_value c.in_ok-found.found).text c.in_ok-found.ensures.looked) found))
    (subst (λ (ss : List SignOff). Looked (λ sign. sign) (sign_numbered ss c.args.number) c.sign_of.result) c.signs.ensures c.sign_of.ensures) in
    if_looked (λ sign. sign) (sign_look deeds c.args.design.now c.args.die.now c.args.number) (λ (sign : SignOff). sign.digest ≡ sha256 (report_at deeds c.args.design.now c.args.die.now sign.revision))
    (λ sign is. sign_is_right deeds c.args.design.now c.args.die.now c.args.number sign (both _ _ book.legal).1 is) c.sign_of.result looked

pub returns-clause-stays : goal.returns-clause-stays
returns-clause-stays g c =
    let deeds = c.args.self.now.deeds in
    let book : IsBook c.args.self.now = subst IsBook c.self.view_is c.self.invariant in
    let found : IsDieIn deeds c.args.design.now c.args.die.now c.in-Some.kept.now.logs c.in-Some.kept.now.signs =
    die_as_named c.self.inside.kept.deeds deeds c.name.result.now c.args.design.now c.args.die.now c.in-Some.kept.now.logs c.in-Some.kept.now.signs (ap (λ (b : BookFacts). b.deeds) c.self.view_is)
    (c.name.ensures.value ∙ ap (λ (v : DesignFacts). v.name) c.deref.ensures ∙ c.in_ok-found.ensures.name) (some_is _ _ _ c.in-Some.is c.in_ok-kept.ensures.some) in
    let looked : Looked (λ sign. sign) (sign_look deeds c.args.design.now c.args.die.now c.args.number) c.sign_of.result =
    subst (λ a. Looked (λ sign. sign) a c.sign_of.result) (sym (sign_looked deeds c.args.design.now c.args.die.now (arc_value c.in_ok-found.found).text c.args.number c.in-Some.kept.now.logs c.in-Some.kept.now.signs (design_there deeds c.args.design.now (arc_value c.in_ok-found.found).text c.in_ok-found.ensures.looked) found))
    (subst (λ (ss : List SignOff). Looked (λ sign. sign) (sign_numbered ss c.args.number) c.sign_of.result) c.signs.ensures c.sign_of.ensures) in
    λ more. if_looked (λ sign. sign) (sign_look deeds c.args.design.now c.args.die.now c.args.number)
    (λ (sign : SignOff). (sign_look (deeds ++ more) c.args.design.now c.args.die.now c.args.number ≡ Ok sign) × (report_at (deeds ++ more) c.args.design.now c.args.die.now sign.revision ≡ report_at deeds c.args.design.now c.args.die.now sign.revision))
    (λ sign is. sign_stays deeds more c.args.design.now c.args.die.now c.args.number sign (both _ _ book.legal).1 is) c.sign_of.result looked
