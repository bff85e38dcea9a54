use Rattle.std.proofs.Common.{◌-◌, ℕ, sym, ap, ◌∙◌, arith}
use Rattle.scan_model.specs.GateSearch.{wiring, operand, State, mark_at}
use Rattle.scan_model.proofs.GateSearch.{closes_loop}
use Rattle.scan_model.proofs.GateSteps.{left_read, mark_read, reached_next, step_settled, step_entered, step_passed}
use Rattle.scan_model.proofs.evaluation.Search.step.Goals as goal

pub returns-then-left-eq0-clause-ok : goal.returns-then-left-eq0-clause-ok
returns-then-left-eq0-clause-ok c =
    let here = left_read (wiring c.args.nets.now c.args.pins.now) c.args.root c.args.self.now c.self.inside.left.items c.args.gate c.index-left.result.now c.requires.search c.requires.top (ap (λ (s : State). s.left) c.self.view_is) c.index-left.ensures in
    step_settled (wiring c.args.nets.now c.args.pins.now) c.args.root c.args.self.now c.settle.new.self c.args.gate c.requires.search c.requires.top (sym here.1 ∙ c.if-left-eq0.true) c.in_ok-settle.ensures

pub returns-in_ok-enter-in-Fresh-clause-ok : goal.returns-in_ok-enter-in-Fresh-clause-ok
returns-in_ok-enter-in-Fresh-clause-ok c =
    let net = wiring c.args.nets.now c.args.pins.now in
    let here = left_read net c.args.root c.args.self.now c.self.inside.left.items c.args.gate c.index-left.result.now c.requires.search c.requires.top (ap (λ (s : State). s.left) c.self.view_is) c.index-left.ensures in
    let mark = mark_read net c.args.root c.args.self.now c.self.inside.marks.items c.operand-operand.result c.index.result.now c.requires.search c.operand-operand.ensures.in_range (ap (λ (s : State). s.marks) c.self.view_is) c.index.ensures in
    let is = ap (λ (n : ℕ). operand net c.args.gate (n - 1)) (sym here.1) ∙ sym c.operand-operand.ensures.value in
    step_entered net c.args.root c.args.self.now c.enter.new.self c.operand-operand.result c.requires.search c.operand-operand.ensures.in_range (mark ∙ c.in-Fresh.is) (reached_next net c.args.root c.args.self.now c.args.gate c.operand-operand.result c.requires.top (omega (arith, here.1)) is) c.in_ok-enter-in-Fresh.ensures

pub returns-in-Open-clause-no_level : goal.returns-in-Open-clause-no_level
returns-in-Open-clause-no_level c =
    let net = wiring c.args.nets.now c.args.pins.now in
    let here = left_read net c.args.root c.args.self.now c.self.inside.left.items c.args.gate c.index-left.result.now c.requires.search c.requires.top (ap (λ (s : State). s.left) c.self.view_is) c.index-left.ensures in
    let mark = mark_read net c.args.root c.args.self.now c.self.inside.marks.items c.operand-operand.result c.index.result.now c.requires.search c.operand-operand.ensures.in_range (ap (λ (s : State). s.marks) c.self.view_is) c.index.ensures in
    let is = ap (λ (n : ℕ). operand net c.args.gate (n - 1)) (sym here.1) ∙ sym c.operand-operand.ensures.value in
    closes_loop net c.args.root c.args.self.now c.args.gate c.requires.search c.requires.top (omega (arith, here.1)) (ap (λ (n : ℕ). mark_at c.args.self.now.marks n) is ∙ mark ∙ c.in-Open.is)

pub returns-in-Settled-clause-ok : goal.returns-in-Settled-clause-ok
returns-in-Settled-clause-ok c =
    let net = wiring c.args.nets.now c.args.pins.now in
    let here = left_read net c.args.root c.args.self.now c.self.inside.left.items c.args.gate c.index-left.result.now c.requires.search c.requires.top (ap (λ (s : State). s.left) c.self.view_is) c.index-left.ensures in
    let mark = mark_read net c.args.root c.args.self.now c.self.inside.marks.items c.operand-operand.result c.index.result.now c.requires.search c.operand-operand.ensures.in_range (ap (λ (s : State). s.marks) c.self.view_is) c.index.ensures in
    let is = ap (λ (n : ℕ). operand net c.args.gate (n - 1)) (sym here.1) ∙ sym c.operand-operand.ensures.value in
    step_passed net c.args.root c.args.self.now c.pass.new.self c.args.gate c.requires.search c.requires.top (omega (arith, here.1)) (ap (λ (n : ℕ). mark_at c.args.self.now.marks n) is ∙ mark ∙ c.in-Settled.is) c.pass.ensures
