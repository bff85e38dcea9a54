use Rattle.bench_reader.proofs.NetsByName.{number_added}
use Rattle.bench_reader.proofs.second_round.numbers_of.Goals as goal

pub loop-name-preserved : goal.loop-name-preserved
loop-name-preserved c =
    number_added c.args.defined.now c.number_of.result c.loop-name.name-index c.loop-name.numbers c.push.new.self c.args.names.now _ c.loop-name-test.true c.number_of.ensures c.loop-name.invariant c.in_ok-push.ensures.ok
