use Rattle.std.proofs.Common.{length, [], arith, rules}
use Rattle.chain_compactor.proofs.PointCount.{length-points_over}
use Rattle.chain_compactor.proofs.channels.Channels.new.Goals as goal

pub returns : goal.returns
returns c t same = record {
  channels = search rules;
  titles = search rules;
  cycles = search rules;
  points = omega (arith, same, length-points_over (length t.netlist.outputs) []);
}
