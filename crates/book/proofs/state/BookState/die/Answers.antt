use Rattle.std.proofs.Common.{◌≡◌, ◌<◌, ◌∙◌, [], sym, ap, subst, length, Some, None, arith}
use Rattle.std.specs.List.{position}
use Rattle.std.specs.Arc.{arc_value}
use Rattle.std.proofs.lemmas.Bool.Decides.{nat_tests}
use Rattle.std.proofs.lemmas.List.{length-map}
use Rattle.book.specs.Deeds.{die_logs, die_signs}
use Rattle.book.specs.Dies.{is_die}
use Rattle.book.specs.Lookups.{IsDieIn}
use Rattle.book.proofs.FoundDie.{empty_die, no_die, of_found, no_values, is_die_in}
use Rattle.book.specs.State.{StateFacts}
use Rattle.book.proofs.state.BookState.die.Goals as goal

pub returns-in_default-clause-none : goal.returns-in_default-clause-none
returns-in_default-clause-none c =
    let absent : position (is_die c.args.design.now c.args.die.now) c.self.inside.dies ≡ None = sym c.in_ok-place.ensures ∙ c.in_default.is in
    subst (λ (k : StateFacts). (die_logs k.deeds c.args.design.now c.args.die.now ≡ []) × (die_signs k.deeds c.args.design.now c.args.die.now ≡ [])) c.self.view_is
    (no_die c.self.inside.deeds.list c.self.inside.dies c.args.design.now c.args.die.now (c.self.invariant.each_die c.args.design.now c.args.die.now) absent)

pub returns-then-is_empty-clause-none : goal.returns-then-is_empty-clause-none
returns-then-is_empty-clause-none c =
    let place : position (is_die c.args.design.now c.args.die.now) c.self.inside.dies ≡ Some c.in-Some.place = sym c.in_ok-place.ensures ∙ c.in-Some.is in
    let zero : length c.logs.result.now ≡ 0 = grind (arith, nat_tests, c.is_empty.ensures, c.if-is_empty.true) in
    subst (λ (k : StateFacts). (die_logs k.deeds c.args.design.now c.args.die.now ≡ []) × (die_signs k.deeds c.args.design.now c.args.die.now ≡ [])) c.self.view_is
    (empty_die c.self.inside.deeds.list c.args.design.now c.args.die.now c.at-kept.result.now.logs c.at-kept.result.now.signs
    (of_found c.self.inside.deeds.list c.self.inside.dies c.args.design.now c.args.die.now (c.self.invariant.each_die c.args.design.now c.args.die.now) c.in-Some.place c.at-kept.result.now place c.at-kept.ensures)
    (sym c.logs.ensures ∙ no_values c.logs.result.now zero))

pub returns-clause-some : goal.returns-clause-some
returns-clause-some c =
    let place : position (is_die c.args.design.now c.args.die.now) c.self.inside.dies ≡ Some c.in-Some.place = sym c.in_ok-place.ensures ∙ c.in-Some.is in
    let more : 0 < length c.logs.result.now = grind (arith, nat_tests, c.is_empty.ensures, c.if-is_empty.false) in
    let same : length c.at-kept.result.now.logs ≡ length c.logs.result.now = ap length (sym c.logs.ensures) ∙ length-map c.logs.result.now (λ x. arc_value x) in
    subst (λ (k : StateFacts). IsDieIn k.deeds c.args.design.now c.args.die.now c.at-kept.result.now.logs c.at-kept.result.now.signs) c.self.view_is
    (is_die_in c.self.inside.deeds.list c.args.design.now c.args.die.now c.at-kept.result.now.logs c.at-kept.result.now.signs
    (of_found c.self.inside.deeds.list c.self.inside.dies c.args.design.now c.args.die.now (c.self.invariant.each_die c.args.design.now c.args.die.now) c.in-Some.place c.at-kept.result.now place c.at-kept.ensures)
    (omega (arith, more, same)))
