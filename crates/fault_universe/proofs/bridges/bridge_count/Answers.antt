use Rattle.std.proofs.Common.{◌≤◌, length, sym, subst, arith}
use Rattle.scan_model.specs.declared.parts.Pair.{Pair}
use Rattle.std.specs.Prelude.{List}
use Rattle.fault_universe.proofs.BridgePlaces.{length-bridges_of, few_bridges}
use Rattle.fault_universe.proofs.bridges.bridge_count.Goals as goal

pub returns-clause-count : goal.returns-clause-count
returns-clause-count c = rw (c.kept_pairs.ensures.kept, c.faults_per_pair.ensures.count, c.profile.ensures.value) (sym (length-bridges_of c.args.parts.now.profile c.args.parts.now.pairs.kept))

pub returns-clause-few : goal.returns-clause-few
returns-clause-few c =
    let t = c.args.parts.now in
    let few : length t.pairs.kept ≤ 65536 = subst (λ (pairs : List Pair). length pairs ≤ 65536) c.kept_pairs.ensures.kept c.kept_pairs.ensures.few in
    omega (arith, length-bridges_of t.profile t.pairs.kept, few_bridges t.profile (length t.pairs.kept) few)
