-- A log of a design that the seat has just seen stands in what it has seen.
use Rattle.std.proofs.Common.{◌≡◌, Result, subst}
use Rattle.std.specs.Prelude.{IfOk}
use Rattle.std.specs.Arc.{arc_value}
use Rattle.std.specs.declared.alloc.Global.{Global}
use Rattle.std.specs.declared.sync.Arc.{Arc}
use Rattle.diagnosis.specs.Designs.{DesignFacts}
use Rattle.book.specs.declared.answers.LookFault.{LookFault}
use Rattle.book.specs.Answers.{design_look}
use Rattle.book.specs.Changes.{Looked}
use Rattle.book.specs.Kinds.{text_behind}
use Rattle.book.proofs.CallerLemmas.{log_stands_in_book}
use Rattle.session_rows.proofs.tests.desk.calls.put_log.Goals as goal

pub put_log-requires-clause-stands : goal.put_log-requires-clause-stands
put_log-requires-clause-stands g c =
    let name = c.args.name.now in
    let seen = c.look_design-looked.new.seat.seen in
    let looked = subst (λ (r : Result (Arc DesignFacts Global) LookFault). Looked text_behind (design_look seen name) r) c.in-Ok.is c.look_design-looked.ensures.looked in
    let named = subst (λ (r : Result (Arc DesignFacts Global) LookFault). IfOk r (λ (d : Arc DesignFacts Global). (arc_value d).name ≡ name)) c.in-Ok.is c.look_design-looked.ensures.name in
    log_stands_in_book seen (arc_value c.in-Ok.design) c.deref.result.now c.deref-2.result.now c.in-Ok-log_of.log (arc_value c.in_ok-log.log) _ _ _ (rw c.in-Ok.is at c.deref.ensures) (rw c.in-Ok.is at c.deref-2.ensures) c.name-design.ensures.design
    looked named c.in-Ok-log_of.ensures.design c.in-Ok-log_of.ensures.die c.in-Ok-log_of.ensures.text c.in-Ok-log_of.ensures.reading c.in_ok-log.ensures.ok
