use Rattle.std.proofs.Common.{arith}
use Rattle.std.proofs.lemmas.List.Sums.{count_by-le-length}
use Rattle.std.proofs.lemmas.List.FromFn.{length-range_with_len}
use Rattle.scan_model.specs.Netlist.{is_gate, net_numbers}
use Rattle.bridge_pairs.proofs.ranks.ranks_of.Goals as goal

pub write_ranks-requires-clause-few : goal.write_ranks-requires-clause-few
write_ranks-requires-clause-few c =
    let circuit = c.args.circuit.now in
    omega (arith, c.nets.ensures.circuit.nets_fit, c.requires.count, count_by-le-length (is_gate circuit) (net_numbers circuit), length-range_with_len)
