use Rattle.std.proofs.Common.{◌≡◌, map, take}
use Rattle.fail_logs.proofs.tables.chain_names.Given as goal

abbrev pub invariant-loop-chain : goal.invariant-loop-chain
invariant-loop-chain l = l.names ≡ map (λ h. h.name) (take l.chain-index l.chains)
