use Rattle.std.proofs.Common.{◌≡◌, ℕ, ◌+◌, ◌%◌, ◌<◌, false}
use Rattle.made_designs.specs.Demo.{predicts_some}
use Rattle.made_designs.proofs.demo.injected.first_failing.Given as goal

abbrev pub invariant-loop-i : goal.invariant-loop-i
invariant-loop-i l = (k : ℕ) → k < l.i → predicts_some l.case.test ((l.first + k) % l.count) ≡ false
