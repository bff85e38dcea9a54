use Rattle.std.proofs.Common.{◌≡◌, length, Option, sym, ap, ◌∙◌}
use Rattle.std.proofs.lemmas.Result.{IfOk-weaker}
use Rattle.scan_model.specs.ScanTest.{ScanTest}
use Rattle.scan_model.specs.Universe.{universe}
use Rattle.made_designs.specs.declared.demo.injected.InjectedFault.{InjectedFault}
use Rattle.made_designs.specs.InjectedFaults.{IsFirst, IsDrawn, place_of}
use Rattle.made_designs.proofs.DemoPlaces.{drawn_first, none_drawn}
use Rattle.made_designs.proofs.demo.injected.inject.Goals as goal

pub returns-clause-drawn : goal.returns-clause-drawn
returns-clause-drawn c = λ seed blocks before.
    let t = c.args.case.now.test in
    let first = c.draw-first.result in
    let count : c.universe_len-count.result ≡ length (universe t) = c.universe_len-count.ensures ∙ ap (λ (t : ScanTest). length (universe t)) c.parts.ensures in
    IfOk-weaker c.first_failing.result (λ (found : Option InjectedFault). IsFirst t first (place_of found)) (λ (found : Option InjectedFault). IsDrawn seed blocks t (place_of found))
    (
    λ found is. drawn_first t seed blocks c.universe_len-count.result c.args.draws.now.state c.draw-first.new.self.state first before count c.draw-first.ensures.state c.draw-first.ensures.value (place_of found) is
    )
    c.first_failing.ensures.first

pub returns-then-count-eq0-clause-drawn : goal.returns-then-count-eq0-clause-drawn
returns-then-count-eq0-clause-drawn c = λ seed blocks before.
    let t = c.args.case.now.test in
    let count : c.universe_len-count.result ≡ length (universe t) = c.universe_len-count.ensures ∙ ap (λ (t : ScanTest). length (universe t)) c.parts.ensures in
    none_drawn t seed blocks (sym count ∙ c.if-count-eq0.true)
