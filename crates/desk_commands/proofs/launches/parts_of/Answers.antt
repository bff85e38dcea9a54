use Rattle.desk_commands.proofs.NoPairs.{no_pairs_fit}
use Rattle.desk_commands.proofs.launches.parts_of.Goals as goal

pub make-requires : goal.make-requires
make-requires c = rw c.no_pairs-pairs.ensures (record {
  circuit = c.requires.circuit;
  chains = c.requires.chains;
  patterns = c.requires.patterns;
  pairs = no_pairs_fit c.args.circuit;
})
