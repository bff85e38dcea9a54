use Rattle.std.proofs.Common.{◌≡◌, ℕ, ◌+◌, ◌%◌, true, false, not, eqb, length, Some, sym, ap, subst, ◌∙◌, below_more, arith, rules}
use Rattle.made_designs.specs.Demo.{predicts_some}
use Rattle.made_designs.specs.InjectedFaults.{IsOwnLog, IsFirst}
use Rattle.made_designs.proofs.DemoPlaces.{first_place, no_place, predicts_as_read}
use Rattle.made_designs.proofs.demo.injected.first_failing.Goals as goal

pub loop-i-preserved : goal.loop-i-preserved
loop-i-preserved c =
    let t = c.args.case.now.test in
    let place = (c.args.first + c.loop-i.i) % c.args.count in
    let same : (c.from.result + c.loop-i.i) % c.from-in-loop-i.result ≡ place = ap (λ (n : ℕ). (n + c.loop-i.i) % c.from-in-loop-i.result) c.from.ensures ∙ ap (λ (n : ℕ). (c.args.first + c.loop-i.i) % n) c.from-in-loop-i.ensures in
    let own : IsOwnLog t place c.in_ok-log.log = subst (λ (n : ℕ). IsOwnLog t n c.in_ok-log.log) same c.in_ok-log.ensures in
    let empty : eqb (length c.in_ok-log.log.facts.fails) 0 ≡ true = search rules in
    let here : predicts_some t place ≡ false = predicts_as_read t place c.in_ok-log.log own ∙ ap not empty in
    below_more _ _ c.loop-i.invariant here

pub returns-then-not-is_empty-clause-found : goal.returns-then-not-is_empty-clause-found
returns-then-not-is_empty-clause-found c = record { within = omega arith; own = c.in_ok-log.ensures }

pub returns-then-not-is_empty-clause-first : goal.returns-then-not-is_empty-clause-first
returns-then-not-is_empty-clause-first c =
    let t = c.args.case.now.test in
    let log = c.in_ok-log.log in
    let place = (c.args.first + c.loop-i.i) % c.args.count in
    let same : (c.from.result + c.loop-i.i) % c.from-in-loop-i.result ≡ place = ap (λ (n : ℕ). (n + c.loop-i.i) % c.from-in-loop-i.result) c.from.ensures ∙ ap (λ (n : ℕ). (c.args.first + c.loop-i.i) % n) c.from-in-loop-i.ensures in
    let own : IsOwnLog t place log = subst (λ (n : ℕ). IsOwnLog t n log) same c.in_ok-log.ensures in
    let some : eqb (length log.facts.fails) 0 ≡ false = search rules in
    let here : predicts_some t place ≡ true = predicts_as_read t place log own ∙ ap not some in
    let at = first_place t c.args.first c.args.count c.requires.count c.requires.some c.loop-i.i (omega arith) c.loop-i.invariant here in
    subst (λ (n : ℕ). IsFirst t c.args.first (Some n)) (sym same) at

pub returns-clause-first : goal.returns-clause-first
returns-clause-first c = no_place c.args.case.now.test c.args.first c.args.count c.requires.count c.requires.some (λ k lt. c.loop-i.invariant k (omega arith))
