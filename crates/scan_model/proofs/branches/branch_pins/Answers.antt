use Rattle.std.proofs.Common.{◌≡◌, ◌+◌, ◌∙◌, ◌++◌, ◌∷◌, [], true, false, Bool, ap, sym, cond, List, ℕ}
use Rattle.std.specs.Prelude.{filter}
use Rattle.std.specs.List.{range_with_len}
use Rattle.std.proofs.lemmas.List.{append-nil}
use Rattle.std.proofs.lemmas.Bool.{le-leb, lt-leb}
use Rattle.scan_model.specs.declared.circuit.PinPlace.TheVariants.{Operand}
use Rattle.scan_model.specs.Netlist.{is_branch}
use Rattle.scan_model.specs.GateSearch.{wiring}
use Rattle.scan_model.proofs.Orders.{filter_range_more}
use Rattle.scan_model.proofs.PinCounts.{branch_counted, pin_net_there}
use Rattle.scan_model.proofs.branches.branch_pins.Goals as goal
use Rattle.scan_model.proofs.branches.branch_pins.Goals.{then-index-ge2+in_ok-push, else-index-ge2}

pub loop-p-preserved : goal.loop-p-preserved
loop-p-preserved c =
    let net = wiring c.args.nets.now c.args.pins.now in
    let p = c.loop-p.p in
    let there = pin_net_there c.args.nets.now c.args.pins.now p record { net = 0; place = Operand 0 0 } c.requires.wired c.loop-p-test.true in
    let is = branch_counted c.args.nets.now c.args.pins.now c.in_ok-counts.counts.items p c.index.result.now record { net = 0; place = Operand 0 0 } c.in_ok-counts.ensures c.loop-p-test.true there c.index.ensures in
    let so_far = filter (is_branch net) (range_with_len 0 p) in
    let added : (b : Bool) → is_branch net p ≡ b → filter (is_branch net) (range_with_len 0 (p + 1)) ≡ so_far ++ cond b (p ∷ []) [] = λ b e. filter_range_more (is_branch net) p ∙ ap (λ v. so_far ++ cond v (p ∷ []) []) e in
    elim c.if-index-ge2.branch [
      | then-index-ge2+in_ok-push w ↦ w.found-is ∙ w.in_ok-push.ensures.ok ∙ ap (λ (xs : List ℕ). xs ++ p ∷ []) c.loop-p.invariant ∙ sym (added true (is ∙ le-leb 2 c.index.result.now w.if-index-ge2.true))
      | else-index-ge2 w ↦ w.found-is ∙ c.loop-p.invariant ∙ sym (added false (is ∙ lt-leb 2 c.index.result.now w.if-index-ge2.false) ∙ append-nil so_far)
    ]
