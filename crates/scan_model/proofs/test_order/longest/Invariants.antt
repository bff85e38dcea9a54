use Rattle.std.proofs.Common.{◌≡◌, max, drop}
use Rattle.scan_model.specs.ScanTest.{longest as model_longest}
use Rattle.scan_model.proofs.test_order.longest.Given as goal

abbrev pub invariant-loop-chain : goal.invariant-loop-chain
invariant-loop-chain l = max l.most (model_longest (drop l.chain-index l.chains)) ≡ model_longest l.chains
